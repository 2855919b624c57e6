-- The pairs of a job, and when one more is refused. Assumes nothing.
use Rattle.std.specs.Prelude.{ℕ, Bool, cond, not, ◌&&◌, List, [], ◌∷◌, ◌++◌, length, ◌==◌, nat_le}
use Rattle.std.specs.List.{list_all}
use Rattle.chip.specs.declared.parameters.FlowParameters.{FlowParameters}
use Rattle.sheet.specs.declared.pair.Pair.{Pair}
use Rattle.sheet.specs.Flows.{labelled}

-- whether a pair names two flows, and not one twice
abbrev pub pair_holds : List FlowParameters → Pair → Bool
pair_holds ps q = labelled q.first ps && labelled q.later ps && not (q.first == q.later)

-- whether each pair does
abbrev pub pairs_hold : List FlowParameters → List Pair → Bool
pairs_hold ps = list_all (pair_holds ps)

-- a pair that names no flow or one flow twice, then a 17th pair
abbrev pub pair_fault : List FlowParameters → List Pair → Pair → ℕ
pair_fault ps qs q = cond (pair_holds ps q) (cond (nat_le 16 (length qs)) 12 0) 11

-- the pairs after one more was handed in: it stands last, unless it was refused
abbrev pub after_pairing : List FlowParameters → List Pair → Pair → List Pair
after_pairing ps qs q = cond (pair_fault ps qs q == 0) (qs ++ q ∷ []) qs
