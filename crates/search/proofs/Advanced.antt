-- Placings one after another, and the walk before the first of them. Assumes nothing.
--   stepped_more, stepped_ended    one placing more, and none more once the walk has ended
--   started                        the walk that has entered its lowest level
use Rattle.std.proofs.Common.{◌≡◌, ℕ, zero, suc, ◌+◌, ◌-◌, ◌<◌, ◌≤◌, Bool, true, List, [], map, get_or, take, drop, sym, refl, ap, ◌∙◌, arith}
use Rattle.std.proofs.lemmas.List.{drop_all, length-take}
use Rattle.rule.specs.Laws.{Lawful}
use Rattle.rule.specs.Meaning.{Meaning}
use Rattle.search.specs.declared.candidates.Candidates.{Candidates}
use Rattle.search.specs.declared.tables.Walk.{Walk}
use Rattle.search.specs.declared.tables.Stage.{Stage}
use Rattle.search.specs.declared.tables.Stage.TheVariants.{Open, Order, NoOrder}
use Rattle.walk.specs.Walk.{State, unplaced, settled_by_ceiling, candidates, enter, step, steps, after, ended}
use Rattle.search.specs.Tables.{Row, masks, slacks, filled, frames, below_of, untried_of, standing_by, standing, free_of, order_of, Entered, MovedOn}
use Rattle.search.specs.Searches.{Walked, Stepped, SteppedOn, Blank, Started}
use Rattle.walk.proofs.Lawfully.{steps_more, step_ended}
use Rattle.search.proofs.Stepping.{settle_same, row_same}
use Rattle.search.proofs.Tabled.{order_open}

-- an ended walk stays as it is
pub steps_stay : (m : Meaning) (k : ℕ) (s : State) → ended s ≡ true → steps m k s ≡ s
steps_stay m zero s e = refl
steps_stay m (suc k) s e = ap (step m) (steps_stay m k s e) ∙ step_ended m s e

pub standing_ended : (w : Walk) (o : Stage) → (o ≡ Open → ⊥) → ended (standing_by o w) ≡ true
standing_ended w Open ne = absurd (ne refl)
standing_ended w (Order bounds) ne = refl
standing_ended w NoOrder ne = refl

module _ (m : Meaning) (i : ℕ) (before now : Walk) (d : SteppedOn m i before now) where
  -- one placing more
  pub stepped_more : (next : Walk) → Stepped m now next → SteppedOn m (i + 1) before next
  stepped_more next s =
      let e : suc i ≡ i + 1 = omega arith in
      record {
        walked = λ v. s.walked (d.walked v);
        stands = λ v. s.stands (d.walked v) ∙ ap (step m) (d.stands v) ∙ ap (λ (k : ℕ). steps m k (standing before)) e;
      }

  -- none more once the walk has ended
  pub stepped_ended : (k : ℕ) → i ≤ k → (now.stage ≡ Open → ⊥) → SteppedOn m k before now
  stepped_ended k h ne = record { walked = d.walked; stands = λ v. d.stands v ∙ later v }
    where
      later : Walked m before → steps m i (standing before) ≡ steps m k (standing before)
      later v =
          let e : i + (k - i) ≡ k = omega arith in
          let over : ended (steps m i (standing before)) ≡ true = ap ended (sym (d.stands v)) ∙ standing_ended now now.stage ne in
          sym (steps_stay m (k - i) (steps m i (standing before)) over) ∙ steps_more m i (k - i) (standing before) ∙ ap (λ (n : ℕ). steps m n (standing before)) e

-- the lowest level entered
module _ (m : Meaning) (laws : Lawful m) (n : ℕ) (same : n ≡ m.flows) (b : Walk) (f : Blank n b) (z : Walk) (q : Entered m b z) (t : Walk) (k : MovedOn z t) where
  flows_are : b.flows ≡ m.flows
  flows_are = f.flows_are ∙ same

  lowest : b.level ≡ b.flows
  lowest = f.lowest ∙ sym f.flows_are

  none_filled : (i : ℕ) → b.flows ≤ i → drop i (order_of b) ≡ []
  none_filled i h = drop_all i (order_of b) (let l = length-take b.flows b.placed in omega arith)

  order_same : order_of z ≡ order_of b
  order_same = ap (λ (j : ℕ). take j z.placed) q.flows ∙ ap (take b.flows) q.placed

  none_below : below_of z z.level ≡ []
  none_below = ap (λ (xs : List ℕ). frames (drop z.level xs) (drop z.level (masks z))) order_same ∙ ap (λ (xs : List ℕ). frames xs (drop z.level (masks z))) (none_filled z.level (let a = q.level in let c = lowest in omega arith))

  free_is : free_of b ≡ unplaced m.flows []
  free_is = ap (λ (j : ℕ). unplaced j (filled b b.level)) flows_are ∙ ap (unplaced m.flows) (none_filled b.level (let c = lowest in omega arith))

  starts : standing t ≡ after m 0
  unfolding after enter
  starts =
      k.stands (q.stage ∙ f.stage)
      ∙ settle_same z.count 0 z.sure (settled_by_ceiling m true (unplaced m.flows [])) (untried_of z) (candidates m true (unplaced m.flows [])) (below_of z z.level) [] (q.count ∙ f.count)
      (q.sure flows_are ∙ ap (λ (s : Bool). settled_by_ceiling m s (free_of b)) f.sure ∙ ap (settled_by_ceiling m true) free_is)
      (q.untried flows_are ∙ ap (λ (s : Bool). candidates m s (free_of b)) f.sure ∙ ap (candidates m true) free_is)
      none_below

  rows_are : (i : ℕ) → t.level ≤ suc i → i < t.flows → Row m (unplaced t.flows (filled t (suc i))) (get_or (slacks t) i [])
  rows_are i h l =
      let a = k.lower in
      let c = q.level in
      let d = lowest in
      let e : t.flows ≡ b.flows = k.same.flows ∙ q.flows in
      let j : suc i ≡ b.level = omega arith in
      let j' : b.level - 1 ≡ i = omega arith in
      row_same m b.flows t.flows (filled b b.level) (filled t (suc i)) (get_or (slacks z) (b.level - 1) []) (get_or (slacks t) i []) (sym e)
      (ap (λ (y : ℕ). drop y (order_of b)) (sym j) ∙ ap (drop (suc i)) (sym (ap (λ (y : ℕ). take y t.placed) k.same.flows ∙ ap (take z.flows) k.same.placed ∙ order_same)))
      (ap (λ (y : ℕ). get_or (slacks z) y []) j' ∙ ap (λ (cs : List Candidates). get_or (map (λ (c : Candidates). c.slack) cs) i []) (sym k.same.candidates))
      (q.row flows_are)

  pub started : Started m t
  started =
      record {
        walked = record { flows = k.same.flows ∙ q.flows ∙ flows_are; rows = rows_are; bounds = λ ticks e. absurd (order_open ticks (sym (q.stage ∙ f.stage) ∙ k.was_order ticks e)); reached = (0, starts) };
        stands = starts;
      }
