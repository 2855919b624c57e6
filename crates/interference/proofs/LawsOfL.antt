-- Rule L keeps the laws of a rule on every chip of 1 to 20 flows. Assumes nothing.
use Rattle.std.proofs.Common.{◌≡◌, ℕ, ◌≤◌, true, not, ◌&&◌, ◌||◌, List, length, sym, ap, ◌∙◌, inl, inr, le_trans, arith}
use mathlib.Core.Path.{fun_ext}
use Rattle.std.proofs.lemmas.Bool.{and_parts, and_from, or_cases, or_left, or_right}
use Rattle.chip.specs.declared.parameters.FlowParameters.{FlowParameters}
use Rattle.rule.specs.Lists.{proper, marks, Struck}
use Rattle.rule.specs.Laws.{Lawful}
use Rattle.interference.specs.Solution.{load}
use Rattle.rule.specs.FlowSets.{members}
use Rattle.interference.specs.Interference.{share, direct, indirect, any, counted, settled}
use Rattle.interference.specs.Rules.{none_extra, counts_L, bound_L, meaning_L}
use Rattle.interference.proofs.Sums.{any_members, any_struck}
use Rattle.interference.proofs.Loads.{load_members, load_struck, load_more, settled_timely, settled_sooner, settled_same}
use Rattle.interference.proofs.LawsOfD.{proper_distinct, as_soon}

-- which flows count depends on the set of the list alone
counts_L_members : (fs : List FlowParameters) (f : ℕ) (above : List ℕ) → length fs ≤ 20 → proper (length fs) f above ≡ true → counts_L fs f (members (marks above)) ≡ counts_L fs f above
counts_L_members fs f above few asked =
    fun_ext (λ j. ap (λ b. direct fs f j || (b && not (share fs j f))) (sym (any_members (λ k. direct fs f k && share fs j k) (length fs) above few (proper_distinct (length fs) f above asked))))

-- the bound under a list is the bound under its set
pub bound_L_members : (fs : List FlowParameters) (f : ℕ) (above : List ℕ) → length fs ≤ 20 → proper (length fs) f above ≡ true → bound_L fs f (members (marks above)) ≡ bound_L fs f above
bound_L_members fs f above few asked =
    ap (λ counts. settled fs f (counted fs counts none_extra (members (marks above)))) (counts_L_members fs f above few asked)
    ∙ settled_same fs f (counted fs (counts_L fs f above) none_extra (members (marks above))) (counted fs (counts_L fs f above) none_extra above)
    (λ t. sym (load_members fs (counts_L fs f above) none_extra t (length fs) above few (proper_distinct (length fs) f above asked)))

-- a flow that counts still counts among more flows
counts_L_struck : (fs : List FlowParameters) (f : ℕ) {fewer above : List ℕ} → Struck fewer above → (j : ℕ) → counts_L fs f fewer j ≡ true → counts_L fs f above j ≡ true
counts_L_struck fs f {fewer} {above} s j h = elim (or_cases (direct fs f j) (indirect fs f fewer j) h) [
  | inl near ↦ or_left (direct fs f j) (indirect fs f above j) near
  | inr far ↦
      let parts = and_parts (any (λ k. direct fs f k && share fs j k) fewer) (not (share fs j f)) far in
      or_right (direct fs f j) (indirect fs f above j) (and_from (any (λ k. direct fs f k && share fs j k) above) (not (share fs j f)) (any_struck (λ k. direct fs f k && share fs j k) s parts.0) parts.1)
]

load_L_struck : (fs : List FlowParameters) (f t : ℕ) {fewer above : List ℕ} → Struck fewer above → load (counted fs (counts_L fs f fewer) none_extra fewer) t ≤ load (counted fs (counts_L fs f above) none_extra above) t
load_L_struck fs f t {fewer} {above} s =
    le_trans (load_more fs (counts_L fs f fewer) (counts_L fs f above) none_extra none_extra (counts_L_struck fs f s) (λ j. omega arith) t fewer) (load_struck fs (counts_L fs f above) none_extra t s)

pub lawful_L : (fs : List FlowParameters) → 1 ≤ length fs → length fs ≤ 20 → Lawful (meaning_L fs)
lawful_L fs some few = record {
  some_flow = some;
  few_flows = few;
  bound_timely = λ f above asked. settled_timely fs f (counted fs (counts_L fs f above) none_extra above);
  floor_timely = λ f set asked. settled_timely fs f (counted fs (counts_L fs f (members set)) none_extra (members set));
  ceiling_timely = λ f set asked. settled_timely fs f (counted fs (counts_L fs f (members set)) none_extra (members set));
  struck = λ f fewer above r asked s e. settled_sooner fs f r (counted fs (counts_L fs f fewer) none_extra fewer) (counted fs (counts_L fs f above) none_extra above) (λ t. load_L_struck fs f t s) e;
  floored = λ f above r asked e. as_soon (bound_L fs f (members (marks above))) r (bound_L_members fs f above few asked ∙ e);
  ceiled = λ f above r asked passes e. as_soon (bound_L fs f above) r (sym (bound_L_members fs f above few asked) ∙ e);
}
