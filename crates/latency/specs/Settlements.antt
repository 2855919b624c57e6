-- The sets and the bounds of a table of what is settled. Assumes nothing.
use Rattle.std.specs.Prelude.{ℕ, List, map}
use Rattle.rule.specs.declared.flow_set.FlowSet.{FlowSet}
use Rattle.latency.specs.declared.settled.Settlement.{Settlement}

-- the sets of the flows above each flow
abbrev pub overs_in : List Settlement → List FlowSet
overs_in table = map (λ x. x.over) table

-- the bound of each flow
abbrev pub bounds_in : List Settlement → List ℕ
bounds_in table = map (λ x. x.bound) table
