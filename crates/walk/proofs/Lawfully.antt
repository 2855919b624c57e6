-- The law of the walk. Assumes nothing.
use Rattle.std.proofs.Common.{◌≡◌, ℕ, zero, suc, ◌+◌, ◌≤◌, Bool, true, false, List, [], sym, refl, ap, ◌∙◌, subst, add-zero, add-suc, arith}
use Rattle.std.proofs.lemmas.Bool.{both_ways, not-true}
use Rattle.std.proofs.lemmas.List.{append-nil}
use Rattle.rule.specs.FlowSets.{empty}
use Rattle.rule.specs.Lists.{Order}
use Rattle.rule.specs.Laws.{Lawful}
use Rattle.rule.specs.Meaning.{Meaning, Passes}
use Rattle.walk.specs.Choice.{Chosen}
use Rattle.walk.specs.Walk.{Frame, State, going, found, nothing, placed, unplaced, floor_slack, ceiling_slack, with_ceiling, enter, next, step, steps, after, ended, count_of}
use Rattle.walk.specs.WalkLaw.{most_placings, NoOrderPasses, WalkLaw}
use Rattle.walk.proofs.Chosen.{chosen}
use Rattle.walk.proofs.Hopes.{Hope}
use Rattle.walk.proofs.Stands.{Stands, start_stands, step_stands}
use Rattle.walk.proofs.Counts.{Due, start_due, step_due, enter_count, place_count, going_less, most_small}

-- a placing of a walk that goes on counts one, and an ended walk stays as it is
pub step_count : (m : Meaning) (s : State) → ended s ≡ false → count_of (step m s) ≡ suc (count_of s)
step_count m (going count sure untried below) e = place_count m (suc count) sure untried below (next m untried below)
step_count m (found count order) e = absurd (both_ways true e refl)
step_count m (nothing count) e = absurd (both_ways true e refl)

pub step_ended : (m : Meaning) (s : State) → ended s ≡ true → step m s ≡ s
step_ended m (going count sure untried below) e = absurd (both_ways false refl e)
step_ended m (found count order) e = refl
step_ended m (nothing count) e = refl

pub steps_more : (m : Meaning) (k more : ℕ) (s : State) → steps m more (steps m k s) ≡ steps m (k + more) s
steps_more m k zero s = ap (λ (n : ℕ). steps m n s) (sym (add-zero k))
steps_more m k (suc more) s = ap (step m) (steps_more m k more s) ∙ ap (λ (n : ℕ). steps m n s) (sym (add-suc k more))

module _ (m : Meaning) (laws : Lawful m) where
  pub after_stands : (k : ℕ) → Stands m (after m k)
  unfolding after
  after_stands zero = start_stands m laws
  after_stands (suc k) = step_stands m laws (after m k) (after_stands k)

  pub after_due : (k : ℕ) → Due m (after m k)
  unfolding after
  after_due zero = start_due m laws
  after_due (suc k) = step_due m laws (after m k) (after_stands k) (after_due k)

  -- a state that goes on after k placings counts k; one that ended is the state at its count
  record Told (k : ℕ) (s : State) : Type 0 where
    open_count : ended s ≡ false → count_of s ≡ k
    count_most : count_of s ≤ k
    at_count : after m (count_of s) ≡ s

  told_more : (k : ℕ) → Told k (after m k) → Told (suc k) (after m (suc k))
  unfolding after
  told_more k t = each (ended (after m k)) refl
    where
      each : (b : Bool) → ended (after m k) ≡ b → Told (suc k) (after m (suc k))
      each true e =
          let s = step_ended m (after m k) e in
          subst (Told (suc k)) (sym s)
          (record { open_count = λ q. absurd (both_ways (ended (after m k)) q e); count_most = let c = t.count_most in omega arith; at_count = t.at_count })
      each false e =
          let c : count_of (after m (suc k)) ≡ suc k = step_count m (after m k) e ∙ ap suc (t.open_count e) in
          record { open_count = λ q. c; count_most = omega arith; at_count = ap (after m) c }

  start_count : count_of (after m 0) ≡ 0
  unfolding after
  start_count = enter_count m 0 true []

  told : (k : ℕ) → Told k (after m k)
  told zero = let c = start_count in record { open_count = λ q. c; count_most = omega arith; at_count = ap (after m) c }
  told (suc k) = told_more k (told k)

  most_ended : (k : ℕ) → most_placings m.flows ≤ k → (s : State) → Stands m s → Due m s → Told k s → ended s ≡ true
  most_ended k h (going count sure untried below) p d t =
      let c = t.open_count refl in
      let l = going_less m count sure untried below p d in
      absurd (omega arith)
  most_ended k h (found count order) p d t = refl
  most_ended k h (nothing count) p d t = refl

  count_due : (s : State) → Stands m s → Due m s → count_of s ≤ most_placings m.flows
  count_due (going count sure untried below) p d = let l = going_less m count sure untried below p d in omega arith
  count_due (found count order) p d = d
  count_due (nothing count) p d = d

  none_passes : (Hope m [] → ⊥) → NoOrderPasses m
  none_passes h order o p =
      h (record { above = order; order = subst (Order m.flows) (sym (append-nil order)) o; bounded = subst (Passes m) (sym (append-nil order)) p })

  further : (k more : ℕ) → steps m more (after m k) ≡ after m (k + more)
  unfolding after
  further k more = steps_more m k more (enter m 0 true [])

  next_is : (untried : List Bool) (below : List Frame) → empty untried ≡ false → Chosen (floor_slack m (unplaced m.flows (placed below))) untried (next m untried below)
  unfolding next
  next_is untried below e = chosen (floor_slack m (unplaced m.flows (placed below))) untried e

  pub walk_law : WalkLaw m
  walk_law =
      record {
        next_chosen = λ untried below e. next_is untried below e;
        ceiling_chosen = λ free e. chosen (ceiling_slack m free) (with_ceiling m free) (not-true (empty (with_ceiling m free)) e);
        nothing_passes = λ k count e. none_passes (subst (Stands m) e (after_stands k));
        order_passes = λ k count order e. subst (Stands m) e (after_stands k);
        open_count = λ k. (told k).open_count;
        count_most = λ k. (told k).count_most;
        ends = λ k h. most_ended k h (after m k) (after_stands k) (after_due k) (told k);
        count_small = λ k. count_due (after m k) (after_stands k) (after_due k);
        most_small = most_small m.flows laws.few_flows;
        at_count = λ k. (told k).at_count;
        onward = λ k more. further k more;
      }
