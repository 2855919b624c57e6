-- The tables that a rule holds, as what they say of the chip. Assumes nothing.
--   chip_of       the flows of a table
--   row           the set of a flow in a table of sets
--   sharers       the flows that share with a flow
--   routed        the flows of a table of routes
--   total         a sum over flows
--   tabled        the flows of a set as interferers
use Rattle.std.specs.Prelude.{ℕ, zero, suc, ◌+◌, ◌-◌, Bool, true, cond, List, [], ◌∷◌, map, take, slice_index, slice_index_or}
use Rattle.chip.specs.declared.parameters.FlowParameters.{FlowParameters}
use Rattle.chip.specs.declared.flow.Flow.{Flow}
use Rattle.chip.specs.declared.route.Route.{Route}
use Rattle.rule.specs.declared.flow_set.FlowSet.{FlowSet}
use Rattle.rule.specs.Lists.{marks}
use Rattle.rule.specs.FlowSets.{marks_of, put, members}
use Rattle.interference.specs.Interference.{share, interferers}
use Rattle.interference.specs.Solution.{Interferer}

-- the chip whose flows are the first n of a table
abbrev pub chip_of : ℕ → List Flow → List FlowParameters
chip_of n flows = map (λ f. f.parameters) (take n flows)

-- the set of flow f in a table of sets
abbrev pub row : List FlowSet → ℕ → List Bool
row near f = slice_index_or (map marks_of near) (f - 1) []

-- the flows, out of the first k, that share with flow f
abbrev pub sharers : List FlowParameters → ℕ → ℕ → List Bool
sharers fs f zero = marks []
sharers fs f (suc k) = cond (share fs (suc k) f) (put (sharers fs f k) (suc k) true) (sharers fs f k)

-- the flows of a table of routes
abbrev pub routed : List Route → List FlowParameters
routed routes = map (λ r. r.flow.parameters) routes

-- what a table of numbers has for flow j
abbrev pub of_flow : List ℕ → ℕ → ℕ
of_flow table j = slice_index table (j - 1)

-- the sum of a weight over a list of flows
abbrev pub total : (ℕ → ℕ) → List ℕ → ℕ
total w [] = 0
total w (g ∷ gs) = w g + total w gs

-- the flows of a set as interferers, each with the interference jitter that a table has for it
abbrev pub tabled : List FlowParameters → List ℕ → List Bool → List Interferer
tabled fs extra set = interferers fs (of_flow extra) (members set)
