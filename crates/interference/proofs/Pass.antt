-- One pass over a list of flows, from the highest downward: each flow is asked under the set of those before it. Assumes nothing.
use Rattle.std.proofs.Common.{◌≡◌, ℕ, ◌+◌, ◌<◌, true, List, length, get_or, take, sym, ap, ◌∙◌}
use Rattle.std.proofs.lemmas.List.{take_more}
use Rattle.rule.specs.Lists.{is_flow, within, proper, distinct, marks}
use Rattle.rule.specs.FlowSets.{marks_of, put}
use Rattle.rule.specs.declared.flow_set.FlowSet.{FlowSet}
use Rattle.rule.proofs.Distinct.{proper_taken}
use Rattle.rule.proofs.Members.{marks_push}
use Rattle.chip.specs.declared.parameters.FlowParameters.{FlowParameters}
use Rattle.interference.proofs.Asked.{asked_flows}

module _ (fs : List FlowParameters) (list : List ℕ) (once : distinct (length fs) list ≡ true) (i : ℕ) (inside : i < length list) where
  -- the flow at a place may be asked under those before it
  pub place_asked : proper (length fs) (get_or list i 0) (take i list) ≡ true
  place_asked = proper_taken (length fs) list i inside once

  pub place_flows : (above : FlowSet) → marks_of above ≡ marks (take i list) → (is_flow (length fs) (get_or list i 0) ≡ true) × (within (length fs) (marks_of above) ≡ true)
  place_flows above e = asked_flows fs (get_or list i 0) (take i list) above place_asked e

-- the set of those before the next place
pub place_more : (list : List ℕ) (i : ℕ) (above next : FlowSet) → i < length list → marks_of above ≡ marks (take i list) → marks_of next ≡ put (marks_of above) (get_or list i 0) true → marks_of next ≡ marks (take (i + 1) list)
place_more list i above next inside e with_it =
    with_it ∙ ap (λ s. put s (get_or list i 0) true) e ∙ sym (marks_push (get_or list i 0) (take i list)) ∙ ap marks (sym (take_more list i 0 inside))
