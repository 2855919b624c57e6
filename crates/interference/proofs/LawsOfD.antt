-- Rule D keeps the laws of a rule on every chip of 1 to 20 flows. Assumes nothing.
use Rattle.std.proofs.Common.{◌≡◌, ℕ, ◌≤◌, true, not, ◌&&◌, List, length, Some, Option, sym, ◌∙◌, arith}
use Rattle.std.proofs.lemmas.Bool.{and_parts}
use Rattle.chip.specs.declared.parameters.FlowParameters.{FlowParameters}
use Rattle.rule.specs.Lists.{is_flow, among, distinct, proper, marks}
use Rattle.rule.specs.Meaning.{NoLater}
use Rattle.rule.specs.Laws.{Lawful}
use Rattle.rule.specs.FlowSets.{members}
use Rattle.interference.specs.Interference.{direct, counted}
use Rattle.interference.specs.Rules.{none_extra, bound_D, meaning_D}
use Rattle.interference.proofs.Loads.{load_members, load_struck, settled_timely, settled_sooner, settled_same}

-- the list of a proper question holds flows only, none twice
pub proper_distinct : (n f : ℕ) (above : List ℕ) → proper n f above ≡ true → distinct n above ≡ true
proper_distinct n f above h = (and_parts (is_flow n f && not (among f above)) (distinct n above) h).1

-- a number is no later than itself
pub as_soon : (o : Option ℕ) (r : ℕ) → o ≡ Some r → NoLater o r
as_soon o r e = rw e (omega arith)

-- the bound under a list is the bound under its set
pub bound_D_members : (fs : List FlowParameters) (f : ℕ) (above : List ℕ) → length fs ≤ 20 → proper (length fs) f above ≡ true → bound_D fs f (members (marks above)) ≡ bound_D fs f above
bound_D_members fs f above few asked =
    settled_same fs f (counted fs (direct fs f) none_extra (members (marks above))) (counted fs (direct fs f) none_extra above)
    (λ t. sym (load_members fs (direct fs f) none_extra t (length fs) above few (proper_distinct (length fs) f above asked)))

pub lawful_D : (fs : List FlowParameters) → 1 ≤ length fs → length fs ≤ 20 → Lawful (meaning_D fs)
lawful_D fs some few = record {
  some_flow = some;
  few_flows = few;
  bound_timely = λ f above asked. settled_timely fs f (counted fs (direct fs f) none_extra above);
  floor_timely = λ f set asked. settled_timely fs f (counted fs (direct fs f) none_extra (members set));
  ceiling_timely = λ f set asked. settled_timely fs f (counted fs (direct fs f) none_extra (members set));
  struck = λ f fewer above r asked s e. settled_sooner fs f r (counted fs (direct fs f) none_extra fewer) (counted fs (direct fs f) none_extra above) (λ t. load_struck fs (direct fs f) none_extra t s) e;
  floored = λ f above r asked e. as_soon (bound_D fs f (members (marks above))) r (bound_D_members fs f above few asked ∙ e);
  ceiled = λ f above r asked passes e. as_soon (bound_D fs f above) r (sym (bound_D_members fs f above few asked) ∙ e);
}
