-- What a proper question gives: the asked flow is one of the chip, and so are the others. Assumes nothing.
use Rattle.std.proofs.Common.{◌≡◌, ℕ, ◌≤◌, Bool, true, leb, List, length, sym, ap, ◌∙◌, arith}
use Rattle.std.proofs.lemmas.Bool.{and_from, le-leb}
use Rattle.rule.specs.Lists.{is_flow, within, proper, marks}
use Rattle.rule.specs.FlowSets.{marks_of}
use Rattle.rule.specs.declared.flow_set.FlowSet.{FlowSet}
use Rattle.rule.proofs.Distinct.{distinct_parts, flow_range}
use Rattle.chip.specs.declared.parameters.FlowParameters.{FlowParameters}
use Rattle.interference.proofs.Kept.{marks_within}

-- a test that a question is proper, by the number of flows
pub tested : (fs : List FlowParameters) (f n : ℕ) (above : List ℕ) (b : Bool) → n ≡ length fs → b ≡ proper n f above → b ≡ true → proper (length fs) f above ≡ true
tested fs f n above b e test holds = ap (λ k. proper k f above) (sym e) ∙ sym test ∙ holds

-- the asked flow is a flow, and the set of the list is within the flows
pub asked_flows : (fs : List FlowParameters) (f : ℕ) (above : List ℕ) (set : FlowSet) → proper (length fs) f above ≡ true → marks_of set ≡ marks above → (is_flow (length fs) f ≡ true) × (within (length fs) (marks_of set) ≡ true)
asked_flows fs f above set asked e =
    let parts = distinct_parts (length fs) f above asked in
    (parts.0, ap (within (length fs)) e ∙ marks_within (length fs) above parts.2)

-- a flow of few is a flow of more
pub flow_more : (n m f : ℕ) → n ≤ m → is_flow n f ≡ true → is_flow m f ≡ true
flow_more n m f more asked = let range = flow_range n f asked in and_from (leb 1 f) (leb f m) (le-leb 1 f range.0) (le-leb f m (omega arith))
