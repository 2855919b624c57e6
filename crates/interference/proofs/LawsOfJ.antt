-- Rule J keeps the laws of a rule on every chip of 1 to 20 flows. Assumes nothing.
-- Lists of flows above go lowest first here, as the equation of rule J takes them, unless a lemma says otherwise.
use Rattle.std.proofs.Common.{◌≡◌, ℕ, ◌+◌, ◌-◌, ◌≤◌, Bool, true, false, cond, not, ◌&&◌, List, [], ◌∷◌, ◌++◌, reverse, length, is_some, Some, None, Option, sym, refl, ap, ◌∙◌, append_assoc, append-nil, arith}
use mathlib.Core.List.{reverse-append}
use Rattle.std.proofs.lemmas.Bool.{and_parts, and_from, or_right}
use Rattle.chip.specs.declared.parameters.FlowParameters.{FlowParameters}
use Rattle.rule.specs.Lists.{proper, marks, Struck}
use Rattle.rule.specs.Lists.Struck.{none, kept, out}
use Rattle.rule.specs.Meaning.{NoLater, InTime, PassesUnder}
use Rattle.rule.specs.Laws.{Lawful}
use Rattle.interference.specs.Solution.{taken, load}
use Rattle.rule.specs.FlowSets.{members}
use Rattle.interference.specs.Interference.{flow, share, direct, disturbed, any, interferer, counted, lateness, delayed}
use Rattle.interference.specs.Rules.{none_extra, solution_J, all_settled, bound_J, ceiling_extra, meaning_J}
use Rattle.interference.proofs.Sums.{any_members, any_struck, any_reverse, struck_reverse}
use Rattle.interference.proofs.Loads.{load_front, load_counted_cons, load_members, load_reverse, share_grows, settled_timely, settled_sooner}
use Rattle.interference.proofs.LawsOfD.{proper_distinct}

-- an answer that is there
some_of : (o : Option ℕ) → is_some o ≡ true → (r : ℕ) × (o ≡ Some r)
some_of (Some r) e = (r, refl)
some_of None e = let z : ◌≡◌ {A = ℕ} 0 1 = cc in absurd (omega arith)

some_no_later : (o : Option ℕ) (r : ℕ) → NoLater o r → is_some o ≡ true
some_no_later (Some s) r h = refl
some_no_later None r h = absurd h

-- the interference jitter of flow j under those above it
abbrev pub jitter_J : List FlowParameters → ℕ → ℕ → List ℕ → ℕ
jitter_J fs f j above = cond (disturbed fs f above j) (lateness fs j (solution_J fs j above)) 0

-- what rule J counts of flow j, put before the rest
pub load_delayed : (fs : List FlowParameters) (f j t : ℕ) (above : List ℕ) → load (delayed fs f (j ∷ above)) t ≡ cond (direct fs f j) (taken (interferer fs j (jitter_J fs f j above)) t) 0 + load (delayed fs f above) t
unfolding delayed
load_delayed fs f j t above = load_front (direct fs f j) (interferer fs j (jitter_J fs f j above)) (delayed fs f above) t

-- a solution that is no later gives no more lateness
lateness_less : (fs : List FlowParameters) (j r : ℕ) (o : Option ℕ) → NoLater o r → lateness fs j o ≤ r - (flow fs j).latency
lateness_less fs j r (Some s) h = omega arith
lateness_less fs j r None h = omega arith

-- jitter is no more where fewer disturb, and the solution is no later
jitter_less : (c d : Bool) (m n : ℕ) → (c ≡ true → d ≡ true) → m ≤ n → cond c m 0 ≤ cond d n 0
jitter_less true true m n more h = h
jitter_less true false m n more h = let z : true ≡ false = sym (more refl) in let y : ◌≡◌ {A = ℕ} 0 1 = cc in absurd (omega arith)
jitter_less false d m n more h = omega arith

-- striking: the load is no more, and every flow left keeps a solution, no later
module _ (fs : List FlowParameters) where
  delayed_struck : {fewer above : List ℕ} → Struck fewer above → all_settled fs above ≡ true → (f t : ℕ) → load (delayed fs f fewer) t ≤ load (delayed fs f above) t
  delayed_struck none ok f t = omega arith
  delayed_struck (out {g} {gs} {hs} s) ok f t =
      let rest = (and_parts (is_some (solution_J fs g hs)) (all_settled fs hs) ok).1 in
      omega (arith, load_delayed fs f g t hs, delayed_struck s rest f t)
  delayed_struck (kept {g} {gs} {hs} s) ok f t =
      let parts = and_parts (is_some (solution_J fs g hs)) (all_settled fs hs) ok in
      let own = some_of (solution_J fs g hs) parts.0 in
      let soon = settled_sooner fs g own.0 (delayed fs g gs) (delayed fs g hs) (delayed_struck s parts.1 g) own.1 in
      let less : jitter_J fs f g gs ≤ jitter_J fs f g hs = jitter_less (disturbed fs f gs g) (disturbed fs f hs g) (lateness fs g (solution_J fs g gs)) (lateness fs g (solution_J fs g hs)) (any_struck (λ k. share fs k g && not (share fs k f)) s) (rw own.1 (lateness_less fs g own.0 (solution_J fs g gs) soon)) in
      omega (arith, load_delayed fs f g t gs, load_delayed fs f g t hs, share_grows fs t g (direct fs f g) (direct fs f g) (jitter_J fs f g gs) (jitter_J fs f g hs) (λ e. e) less, delayed_struck s parts.1 f t)

  all_settled_struck : {fewer above : List ℕ} → Struck fewer above → all_settled fs above ≡ true → all_settled fs fewer ≡ true
  all_settled_struck none ok = ok
  all_settled_struck (out {g} {gs} {hs} s) ok = all_settled_struck s (and_parts (is_some (solution_J fs g hs)) (all_settled fs hs) ok).1
  all_settled_struck (kept {g} {gs} {hs} s) ok =
      let parts = and_parts (is_some (solution_J fs g hs)) (all_settled fs hs) ok in
      let own = some_of (solution_J fs g hs) parts.0 in
      let soon = settled_sooner fs g own.0 (delayed fs g gs) (delayed fs g hs) (delayed_struck s parts.1 g) own.1 in
      and_from (is_some (solution_J fs g gs)) (all_settled fs gs) (some_no_later (solution_J fs g gs) own.0 soon) (all_settled_struck s parts.1)

  -- rule J counts what rule D counts, no sooner
  delayed_at_least : (f t : ℕ) (above : List ℕ) → load (counted fs (direct fs f) none_extra above) t ≤ load (delayed fs f above) t
  unfolding delayed
  delayed_at_least f t [] = omega arith
  delayed_at_least f t (j ∷ above) =
      omega (arith, load_counted_cons fs (direct fs f) none_extra t j above, load_delayed fs f j t above, share_grows fs t j (direct fs f j) (direct fs f j) 0 (jitter_J fs f j above) (λ e. e) (omega arith), delayed_at_least f t above)

  -- rule J counts no more than its ceiling does under more flows
  delayed_at_most : (f t : ℕ) (all above : List ℕ) → all_settled fs above ≡ true → ((p : ℕ → Bool) → any p above ≡ true → any p all ≡ true) → load (delayed fs f above) t ≤ load (counted fs (direct fs f) (ceiling_extra fs f all) above) t
  unfolding delayed
  delayed_at_most f t all [] ok more = omega arith
  delayed_at_most f t all (j ∷ above) ok more =
      let parts = and_parts (is_some (solution_J fs j above)) (all_settled fs above) ok in
      let within : (p : ℕ → Bool) → any p above ≡ true → any p all ≡ true = λ p h. more p (or_right (p j) (any p above) h) in
      let own = some_of (solution_J fs j above) parts.0 in
      let timely : InTime (Some own.0) (flow fs j).deadline = rw own.1 at (settled_timely fs j (delayed fs j above)) in
      let less : jitter_J fs f j above ≤ ceiling_extra fs f all j = jitter_less (disturbed fs f above j) (disturbed fs f all j) (lateness fs j (solution_J fs j above)) ((flow fs j).deadline - (flow fs j).latency) (within (λ k. share fs k j && not (share fs k f))) (rw own.1 (omega arith)) in
      omega (arith, load_counted_cons fs (direct fs f) (ceiling_extra fs f all) t j above, load_delayed fs f j t above, share_grows fs t j (direct fs f j) (direct fs f j) (jitter_J fs f j above) (ceiling_extra fs f all j) (λ e. e) less, delayed_at_most f t all above parts.1 within)

-- a bound told: every flow above has a solution, and the bound is the flow's own
told_parts : (b : Bool) (o : Option ℕ) (r : ℕ) → cond b o None ≡ Some r → (b ≡ true) × (o ≡ Some r)
told_parts true o r e = (refl, e)
told_parts false o r e = let z : ◌≡◌ {A = ℕ} 0 1 = cc in absurd (omega arith)

told_some : (b : Bool) (o : Option ℕ) → is_some (cond b o None) ≡ true → b ≡ true → is_some o ≡ true
told_some true o e h = e
told_some false o e h = let z : ◌≡◌ {A = ℕ} 0 1 = cc in absurd (omega arith)

-- where all flows above, highest first, have a solution, the bound told is the solution
pub bound_J_is : (fs : List FlowParameters) (f : ℕ) (above : List ℕ) → all_settled fs (reverse above) ≡ true → bound_J fs f above ≡ solution_J fs f (reverse above)
bound_J_is fs f above ok = ap (λ b. cond b (solution_J fs f (reverse above)) None) ok

-- in a list in which each flow has a bound under those before it, each has a solution
pub passes_settled : (fs : List FlowParameters) (above levels : List ℕ) → all_settled fs (reverse above) ≡ true → PassesUnder (meaning_J fs) above levels → all_settled fs (reverse (above ++ levels)) ≡ true
passes_settled fs above [] ok passes = rw append-nil ok
passes_settled fs above (f ∷ levels) ok passes =
    let own : is_some (solution_J fs f (reverse above)) ≡ true = told_some (all_settled fs (reverse above)) (solution_J fs f (reverse above)) passes.0 ok in
    let more : all_settled fs (reverse (above ++ f ∷ [])) ≡ true = rw (reverse-append above (f ∷ [])) (and_from (is_some (solution_J fs f (reverse above))) (all_settled fs (reverse above)) own ok) in
    rw append_assoc at (passes_settled fs (above ++ f ∷ []) levels more passes.1)

-- the floor counts no more than the equation, the ceiling no less
module _ (fs : List FlowParameters) (f t : ℕ) (above : List ℕ) (few : length fs ≤ 20) (asked : proper (length fs) f above ≡ true) where
  floor_less : load (counted fs (direct fs f) none_extra (members (marks above))) t ≤ load (delayed fs f (reverse above)) t
  floor_less =
      omega (arith, load_members fs (direct fs f) none_extra t (length fs) above few (proper_distinct (length fs) f above asked), load_reverse fs (direct fs f) none_extra t above, delayed_at_least fs f t (reverse above))

  ceiling_more : all_settled fs (reverse above) ≡ true → load (delayed fs f (reverse above)) t ≤ load (counted fs (direct fs f) (ceiling_extra fs f (members (marks above))) (members (marks above))) t
  ceiling_more ok =
      let all : List ℕ = members (marks above) in
      let proper-list = proper_distinct (length fs) f above asked in
      let more : (p : ℕ → Bool) → any p (reverse above) ≡ true → any p all ≡ true = λ p h. sym (any_members p (length fs) above few proper-list) ∙ sym (any_reverse p above) ∙ h in
      omega (arith, load_members fs (direct fs f) (ceiling_extra fs f all) t (length fs) above few proper-list, load_reverse fs (direct fs f) (ceiling_extra fs f all) t above, delayed_at_most fs f t all (reverse above) ok more)

timely_J : (fs : List FlowParameters) (f : ℕ) (above : List ℕ) (b : Bool) → InTime (cond b (solution_J fs f above) None) (flow fs f).deadline
timely_J fs f above true = settled_timely fs f (delayed fs f above)
timely_J fs f above false = tt

pub lawful_J : (fs : List FlowParameters) → 1 ≤ length fs → length fs ≤ 20 → Lawful (meaning_J fs)
lawful_J fs some few = record {
  some_flow = some;
  few_flows = few;
  bound_timely = λ f above asked. timely_J fs f (reverse above) (all_settled fs (reverse above));
  floor_timely = λ f set asked. settled_timely fs f (counted fs (direct fs f) none_extra (members set));
  ceiling_timely = λ f set asked. settled_timely fs f (counted fs (direct fs f) (ceiling_extra fs f (members set)) (members set));
  struck = λ f fewer above r asked s e.
      let parts = told_parts (all_settled fs (reverse above)) (solution_J fs f (reverse above)) r e in
      rw (bound_J_is fs f fewer (all_settled_struck fs (struck_reverse s) parts.0))
      (settled_sooner fs f r (delayed fs f (reverse fewer)) (delayed fs f (reverse above)) (delayed_struck fs (struck_reverse s) parts.0 f) parts.1);
  floored = λ f above r asked e.
      let parts = told_parts (all_settled fs (reverse above)) (solution_J fs f (reverse above)) r e in
      settled_sooner fs f r (counted fs (direct fs f) none_extra (members (marks above))) (delayed fs f (reverse above)) (λ t. floor_less fs f t above few asked) parts.1;
  ceiled = λ f above r asked passes e.
      let ok : all_settled fs (reverse above) ≡ true = passes_settled fs [] above refl passes in
      rw (bound_J_is fs f above ok)
      (settled_sooner fs f r (delayed fs f (reverse above)) (counted fs (direct fs f) (ceiling_extra fs f (members (marks above))) (members (marks above))) (λ t. ceiling_more fs f t above few asked ok) e);
}
