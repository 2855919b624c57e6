-- The flows of a sheet in their order, and when one more is refused. Assumes nothing.
--   labelled       whether a label is on the sheet
--   add_fault      the number with which one more flow is refused, 0 for none
use Rattle.std.specs.Prelude.{ℕ, zero, suc, Bool, true, cond, not, ◌&&◌, List, [], ◌∷◌, ◌++◌, length, None, Option, ◌==◌, nat_le}
use Rattle.std.specs.List.{list_any, slice_get}
use Rattle.std.specs.Option.{option_map}
use Rattle.chip.specs.declared.flow.Flow.{Flow}
use Rattle.chip.specs.declared.parameters.FlowParameters.{FlowParameters}

-- what is said of a flow
abbrev pub said : Flow → FlowParameters
said f = f.parameters

-- whether some flow has this label
abbrev pub labelled : ℕ → List FlowParameters → Bool
labelled label = list_any (λ p. label == p.label)

-- whether no label stands twice
abbrev pub distinct_labels : List FlowParameters → Bool
distinct_labels [] = true
distinct_labels (p ∷ ps) = not (labelled p.label ps) && distinct_labels ps

-- a label that is on the sheet already, then a 21st flow
abbrev pub add_fault : List FlowParameters → FlowParameters → ℕ
add_fault ps p = cond (labelled p.label ps) 8 (cond (nat_le 20 (length ps)) 9 0)

-- the flows after one more was handed in: it stands last, unless it was refused
abbrev pub after_adding : List FlowParameters → FlowParameters → List FlowParameters
after_adding ps p = cond (add_fault ps p == 0) (ps ++ p ∷ []) ps

-- what is said of a flow, if there is one
abbrev pub said_of : Option Flow → Option FlowParameters
said_of = option_map said

-- the flow with this number: the first has number 1, and no flow has number 0
abbrev pub flow_numbered : ℕ → List FlowParameters → Option FlowParameters
flow_numbered zero ps = None
flow_numbered (suc i) ps = slice_get ps i
