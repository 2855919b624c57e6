-- What a search answers, from its tables. Assumes nothing.
--   refused_after     an advance once the search has ended
--   level_told        the flow on a level and its bound
--   plan_told         the plan, as the tables and the rule tell it
use Rattle.std.proofs.Common.{◌≡◌, ℕ, zero, suc, ◌-◌, ◌<◌, ◌≤◌, leb, List, [], ◌++◌, length, get_or, take, replicate, Some, Ok, Err, Result, sym, refl, ap, ◌∙◌, subst, ap₂, arith}
use Rattle.std.proofs.lemmas.Bool.{cond-true, ne_eqb, le-leb, and_from}
use Rattle.std.proofs.lemmas.List.{get_or-take, get_or_append_left}
use Rattle.std.specs.Result.{result_unwrap_or}
use Rattle.chip.specs.declared.refusal.Refusal.{Refusal}
use Rattle.chip.specs.declared.refusal.Refusal.TheVariants.{AdvanceAfterEnd, LevelOutside, NoOutcome}
use Rattle.rule.specs.Laws.{Lawful}
use Rattle.rule.specs.Lists.{is_flow}
use Rattle.rule.specs.Meaning.{Meaning, leading}
use Rattle.rule.specs.Questions.{asked_label}
use Rattle.rule.proofs.Distinct.{proper_taken, distinct_parts}
use Rattle.rule.proofs.Told.{leading_at, replied}
use Rattle.search.specs.declared.searching.Level.{Level}
use Rattle.search.specs.declared.tables.Walk.{Walk}
use Rattle.search.specs.declared.tables.Stage.{Stage}
use Rattle.search.specs.declared.tables.Stage.TheVariants.{Open, Order}
use Rattle.walk.specs.Walk.{State, found, ended}
use Rattle.walk.specs.WalkLaw.{SoundOrder}
use Rattle.search.specs.Candidates.{time_of}
use Rattle.search.specs.Tables.{standing_by, standing, order_of}
use Rattle.search.specs.Searches.{Walked}
use Rattle.search.specs.Answers.{advance_reply, level_at, level_reply}
use Rattle.search.specs.Plans.{level_bytes, levels_bytes, tail_bytes, plan, fit_reply, fit_after, plan_reply, plan_after, levels_told}
use Rattle.walk.proofs.Orders.{order_distinct}
use Rattle.walk.proofs.Passing.{passes_all}
use Rattle.walk.proofs.Stands.{Stands}
use Rattle.walk.proofs.Lawfully.{after_stands}
use Rattle.search.proofs.Opened.{order_length}
use Rattle.search.proofs.Advanced.{standing_ended}

-- an advance once the search has ended
pub refused_after : (w : Walk) (placings : ℕ) → (placings ≡ 0 → ⊥) → (w.stage ≡ Open → ⊥) → ◌≡◌ {A = Result (Unit {0}) Refusal} (Err AdvanceAfterEnd) (advance_reply (standing w) placings)
refused_after w placings ne over = rw (ne_eqb placings 0 ne, standing_ended w w.stage over) refl

-- an ended search with an order
module _ (m : Meaning) (laws : Lawful m) (w : Walk) (v : Walked m w) (bounds : List ℕ) (e : w.stage ≡ Order bounds) where
  pub found_here : standing w ≡ found w.count (order_of w)
  found_here = ap (λ (o : Stage). standing_by o w) e

  pub sound_here : SoundOrder m (order_of w)
  sound_here = subst (Stands m) (sym v.reached.1 ∙ found_here) (after_stands m laws v.reached.0)

  all_told : length (leading m [] (order_of w)) ≡ w.flows
  all_told = passes_all m [] (order_of w) sound_here.bounded ∙ order_length w

  -- the bound kept for a level is the rule's
  pub bound_kept : (i : ℕ) → i < w.flows → m.bound (get_or (order_of w) i 0) (take i (order_of w)) ≡ Some (get_or bounds i 0)
  bound_kept i h =
      let l : i < length (leading m [] (order_of w)) = omega (arith, all_told) in
      leading_at m (order_of w) i l
      ∙ ap Some (sym (ap (λ (xs : List ℕ). get_or xs i 0) (v.bounds bounds e) ∙ get_or_append_left (leading m [] (order_of w)) (replicate (20 - length (leading m [] (order_of w))) 0) 0 i l))

  pub level_told : (k : ℕ) → 1 ≤ k → k ≤ w.flows → ◌≡◌ {A = Result Level Refusal} (Ok (record { flow = get_or w.placed (k - 1) 0; bound = get_or bounds (k - 1) 0 })) (level_reply m (standing w) k)
  level_told k a b =
      ap Ok (ap₂ (λ (x y : ℕ). record { flow = x; bound = y }) (sym (get_or-take w.flows w.placed (k - 1) 0 (omega arith))) (sym (ap time_of (bound_kept (k - 1) (omega arith)))))
      ∙ sym (cond-true (is_flow m.flows k) (Ok (level_at m (order_of w) k)) (Err LevelOutside) (and_from (leb 1 k) (leb k m.flows) (le-leb 1 k a) (le-leb k m.flows (let f = v.flows in omega arith))))
      ∙ sym (ap (λ (s : State). level_reply m s k) found_here)

  -- the label told of a level is the rule's
  label_kept : (i : ℕ) → i < w.flows → result_unwrap_or (asked_label m (get_or (order_of w) i 0)) 0 ≡ m.label (get_or (order_of w) i 0)
  label_kept i h =
      let l = order_length w in
      let d = proper_taken m.flows (order_of w) i (omega arith) (order_distinct m.flows (order_of w) sound_here.each_once) in
      ap (λ (x : Result ℕ Refusal). result_unwrap_or x 0) (replied (is_flow m.flows (get_or (order_of w) i 0)) (m.label (get_or (order_of w) i 0)) (distinct_parts m.flows (get_or (order_of w) i 0) (take i (order_of w)) d).0)

  levels_same : (k : ℕ) → k ≤ w.flows → levels_told m (order_of w) bounds k ≡ levels_bytes m (order_of w) k
  levels_same zero h = refl
  levels_same (suc k) h =
      ap₂ (λ (xs ys : List ℕ). xs ++ ys) (levels_same k (omega arith))
      (ap₂ (level_bytes (suc k)) (label_kept k (omega arith)) (sym (ap time_of (bound_kept k (omega arith)))))

  -- the plan told is the rule's
  pub plan_told : levels_told m (order_of w) bounds (length (order_of w)) ++ tail_bytes w.count ≡ plan m (standing w)
  plan_told =
      ap (λ (xs : List ℕ). xs ++ tail_bytes w.count) (levels_same (length (order_of w)) (let l = order_length w in omega arith))
      ∙ sym (ap (plan m) found_here)

  pub plan_reply_told : (room : ℕ) (x : Result ℕ Refusal) → x ≡ fit_reply (levels_told m (order_of w) bounds (length (order_of w)) ++ tail_bytes w.count) room → x ≡ plan_reply m (standing w) room
  plan_reply_told room x e =
      e ∙ ap (λ (bytes : List ℕ). fit_reply bytes room) plan_told
      ∙ sym (cond-true (ended (standing w)) (fit_reply (plan m (standing w)) room) (Err NoOutcome) (ap ended found_here))

  pub plan_after_told : (buffer after : List ℕ) → after ≡ fit_after (levels_told m (order_of w) bounds (length (order_of w)) ++ tail_bytes w.count) buffer → after ≡ plan_after m (standing w) buffer
  plan_after_told buffer after e =
      e ∙ ap (λ (bytes : List ℕ). fit_after bytes buffer) plan_told
      ∙ sym (cond-true (ended (standing w)) (fit_after (plan m (standing w)) buffer) buffer (ap ended found_here))
