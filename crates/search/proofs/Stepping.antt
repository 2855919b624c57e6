-- A placing in the tables is a placing of the walk. Assumes nothing.
--   descended     a placing above level 1
--   tried         a placing on level 1
--   stayed        no placing of an ended walk
use Rattle.std.proofs.Common.{◌≡◌, ℕ, zero, suc, ◌+◌, ◌-◌, ◌^◌, ◌<◌, ◌≤◌, min, Bool, true, false, cond, eqb, List, [], ◌∷◌, map, length, get_or, take, drop, Some, None, sym, refl, ap, ◌∙◌, subst, ⊎_elim, arith}
use lib.ListN as ListN
use Rattle.std.proofs.lemmas.Bool.{both_ways, cases_eq, cond-true, cond-false, eq-eqb, ne_eqb}
use Rattle.std.proofs.lemmas.List.{get_or-set_same, drop-set, drop-set-lt, length-map, length-take, length-take-le, length-drop}
use Rattle.rule.specs.FlowSets.{marks_of, put, empty}
use Rattle.rule.specs.Laws.{Lawful}
use Rattle.rule.specs.Lists.{distinct}
use Rattle.rule.specs.Meaning.{Meaning, leading}
use Rattle.rule.specs.Questions.{table}
use Rattle.search.specs.declared.tables.Walk.{Walk}
use Rattle.search.specs.declared.tables.Stage.{Stage}
use Rattle.search.specs.declared.tables.Stage.TheVariants.{Open, Order, NoOrder}
use Rattle.search.specs.declared.candidates.Candidates.{Candidates}
use Rattle.search.specs.Candidates.{entry_of, choice_by, chosen_by}
use Rattle.walk.specs.Walk.{Frame, going, found, placed, unplaced, floor_slack, settled_by_ceiling, candidates, settle, enter, next, passes, place, step, after}
use Rattle.search.specs.Tables.{Row, masks, slacks, filled, frames, below_of, untried_of, moving, standing_by, standing, free_of, order_of, choice_of, slack_of, next_by, next_of, Put, Entered, MovedOn, Passed, Tested}
use Rattle.search.specs.Searches.{Walked}
use Rattle.search.proofs.Tabled.{order_open}
use Rattle.search.proofs.Heard.{choice_same}
use Rattle.walk.proofs.Stands.{Stands, next_untried, order_distinct'}
use Rattle.walk.proofs.Counts.{Due, going_less, most_small}
use Rattle.walk.proofs.Lawfully.{after_stands, after_due}

-- the levels that tables hold
pub placed_frames : (fs : List ℕ) (ss : List (List Bool)) → length fs ≤ length ss → placed (frames fs ss) ≡ fs
placed_frames [] ss h = refl
placed_frames (f ∷ fs) [] h = absurd (omega arith)
placed_frames (f ∷ fs) (s ∷ ss) h = ap (λ (xs : List ℕ). f ∷ xs) (placed_frames fs ss (omega arith))

frames_length : (fs : List ℕ) (ss : List (List Bool)) → length fs ≤ length ss → length (frames fs ss) ≡ length fs
frames_length [] ss h = refl
frames_length (f ∷ fs) [] h = absurd (omega arith)
frames_length (f ∷ fs) (s ∷ ss) h = ap suc (frames_length fs ss (omega arith))

take_set_in : (n i : ℕ) (xs : List ℕ) (y : ℕ) → take n (ListN.set xs i y) ≡ ListN.set (take n xs) i y
take_set_in zero i xs y = refl
take_set_in (suc n) i [] y = refl
take_set_in (suc n) zero (x ∷ xs) y = refl
take_set_in (suc n) (suc i) (x ∷ xs) y = ap (λ (zs : List ℕ). x ∷ zs) (take_set_in n i xs y)

-- a flow put at i, seen from there and from past it
put_here : (n i : ℕ) (xs : List ℕ) (y : ℕ) → i < n → n ≤ length xs → drop i (take n (ListN.set xs i y)) ≡ y ∷ drop (i + 1) (take n xs)
put_here n i xs y h l = ap (drop i) (take_set_in n i xs y) ∙ drop-set (take n xs) i y (let e = length-take n xs in omega arith)

put_past : (n i j : ℕ) (xs : List ℕ) (y : ℕ) → i < j → drop j (take n (ListN.set xs i y)) ≡ drop j (take n xs)
put_past n i j xs y h = ap (drop j) (take_set_in n i xs y) ∙ drop-set-lt j (take n xs) i y h

pub settle_same : (c d : ℕ) (s t : Bool) (u v : List Bool) (a b : List Frame) → c ≡ d → s ≡ t → u ≡ v → a ≡ b → settle c s u a ≡ settle d t v b
settle_same c d s t u v a b p q r e = cc

-- an open walk whose tables agree with the meaning, and the tables x after the next candidate is put
module _ (m : Meaning) (laws : Lawful m) (w : Walk) (v : Walked m w) (o : w.stage ≡ Open) where
  abbrev u : List Bool
  u = untried_of w

  abbrev b : List Frame
  b = below_of w w.level

  here : standing w ≡ going w.count w.sure u b
  here = ap (λ (x : Stage). standing_by x w) o

  pub open_stands : Stands m (going w.count w.sure u b)
  open_stands = subst (Stands m) (sym v.reached.1 ∙ here) (after_stands m laws v.reached.0)

  open_due : Due m (going w.count w.sure u b)
  open_due = subst (Due m) (sym v.reached.1 ∙ here) (after_due m laws v.reached.0)

  masks_sized : length (masks w) ≡ 20
  masks_sized = length-map w.candidates (λ (c : Candidates). marks_of c.set) ∙ w.sized.1

  order_sized : length (order_of w) ≡ w.flows
  order_sized = length-take-le w.flows w.placed (let a = w.sized.0 in let c = w.ranged.2 in omega arith)

  fits : length (filled w w.level) ≤ length (drop w.level (masks w))
  fits =
      let a = length-drop w.level (order_of w) in
      let c = length-drop w.level (masks w) in
      let d = masks_sized in
      let e = order_sized in
      let h = w.ranged.2 in
      omega arith

  below_placed : placed b ≡ filled w w.level
  below_placed = placed_frames (filled w w.level) (drop w.level (masks w)) fits

  below_length : length b + w.level ≡ w.flows
  below_length =
      let a = frames_length (filled w w.level) (drop w.level (masks w)) fits in
      let c = length-drop w.level (order_of w) in
      let d = order_sized in
      let e = w.ranged.1 in
      omega arith

  -- the flow that is put is the next
  next_put : choice_of w ≡ next m u b
  unfolding next
  next_put =
      choice_same (entry_of (get_or (slacks w) (w.level - 1) [])) (floor_slack m (unplaced m.flows (placed b))) u
      (λ f h. subst (λ (n : ℕ). Row m (unplaced n (placed b)) (get_or (slacks w) (w.level - 1) [])) v.flows row f (open_stands.0.level.free f h))
    where
      row : Row m (unplaced w.flows (placed b)) (get_or (slacks w) (w.level - 1) [])
      row =
          let a = w.ranged.0 in
          let c = w.ranged.1 in
          let e : suc (w.level - 1) ≡ w.level = omega arith in
          subst (λ (xs : List ℕ). Row m (unplaced w.flows xs) (get_or (slacks w) (w.level - 1) [])) (ap (filled w) e ∙ sym below_placed)
          (v.rows (w.level - 1) (omega arith) (omega arith))

  -- the count does not saturate
  count_more : min (w.count + 1) (2 ^ 64 - 1) ≡ suc w.count
  count_more =
      let a = going_less m w.count w.sure u b open_stands open_due in
      let c = most_small m.flows laws.few_flows in
      omega arith

  module _ (flow : ℕ) (chosen : flow ≡ choice_of w) (x : Walk) (p : Put flow w x) where
    abbrev f : ℕ
    f = flow

    flow_next : flow ≡ next m u b
    flow_next = chosen ∙ next_put

    abbrev filled_frame : Frame
    filled_frame = record { flow = f; untried = put u f false }

    put_count : x.count ≡ suc w.count
    put_count = p.count ∙ count_more

    put_order : order_of x ≡ take w.flows (ListN.set w.placed (w.level - 1) f)
    put_order = ap (λ (n : ℕ). take n x.placed) p.flows ∙ ap (take w.flows) p.placed

    -- the levels from the one that was filled
    put_filled : drop (w.level - 1) (order_of x) ≡ f ∷ filled w w.level
    put_filled =
        let a = w.ranged.0 in
        let c = w.ranged.1 in
        let d = w.ranged.2 in
        let l = w.sized.0 in
        let e : w.level - 1 + 1 ≡ w.level = omega arith in
        ap (drop (w.level - 1)) put_order ∙ put_here w.flows (w.level - 1) w.placed f (omega arith) (omega arith) ∙ ap (λ (i : ℕ). f ∷ filled w i) e

    put_masks : drop (w.level - 1) (masks x) ≡ put u f false ∷ drop w.level (masks w)
    put_masks =
        let a = w.ranged.0 in
        let c = w.ranged.1 in
        let d = w.ranged.2 in
        let l = masks_sized in
        let e : w.level - 1 + 1 ≡ w.level = omega arith in
        ap (drop (w.level - 1)) p.untried ∙ drop-set (masks w) (w.level - 1) (put u f false) (omega arith) ∙ ap (λ (i : ℕ). put u f false ∷ drop i (masks w)) e

    put_frames : frames (drop (w.level - 1) (order_of x)) (drop (w.level - 1) (masks x)) ≡ filled_frame ∷ b
    put_frames = ap (λ (xs : List ℕ). frames xs (drop (w.level - 1) (masks x))) put_filled ∙ ap (frames (f ∷ filled w w.level)) put_masks

    -- the levels past the one that was filled
    put_beyond : (i : ℕ) → w.level ≤ i → drop i (order_of x) ≡ filled w i
    put_beyond i h = let a = w.ranged.0 in ap (drop i) put_order ∙ put_past w.flows (w.level - 1) i w.placed f (omega arith)

    put_below : frames (drop w.level (order_of x)) (drop w.level (masks x)) ≡ b
    put_below =
        let a = w.ranged.0 in
        ap (λ (xs : List ℕ). frames xs (drop w.level (masks x))) (put_beyond w.level (omega arith))
        ∙ ap (frames (filled w w.level)) (ap (drop w.level) p.untried ∙ drop-set-lt w.level (masks w) (w.level - 1) (put u f false) (omega arith))

    put_untried_at : get_or (masks x) (w.level - 1) [] ≡ put u f false
    put_untried_at =
        let a = w.ranged.0 in
        let c = w.ranged.1 in
        let d = w.ranged.2 in
        let l = masks_sized in
        ap (λ (xs : List (List Bool)). get_or xs (w.level - 1) []) p.untried ∙ get_or-set_same (masks w) (w.level - 1) (put u f false) [] (omega arith)

    -- the times kept for the levels from the one that was filled
    put_rows : (i : ℕ) → w.level ≤ suc i → i < w.flows → Row m (unplaced w.flows (drop (suc i) (order_of x))) (get_or (slacks w) i [])
    put_rows i h l = subst (λ (xs : List ℕ). Row m (unplaced w.flows xs) (get_or (slacks w) i [])) (sym (put_beyond (suc i) h)) (v.rows i h l)

-- the walk y is x with the level above as the one to be filled
pub record Lowered (x y : Walk) : Type 0 where
  pub flows : y.flows ≡ x.flows
  pub level : y.level ≡ x.level - 1
  pub sure : y.sure ≡ x.sure
  pub placed : y.placed ≡ x.placed
  pub candidates : y.candidates ≡ x.candidates
  pub count : y.count ≡ x.count
  pub stage : y.stage ≡ x.stage

-- the times kept for a level in the tables
abbrev row_in : ℕ → List Candidates → List ℕ
row_in i cs = get_or (map (λ (c : Candidates). c.slack) cs) i []

pub row_same : (m : Meaning) (n k : ℕ) (xs ys row other : List ℕ) → n ≡ k → xs ≡ ys → row ≡ other → Row m (unplaced n xs) row → Row m (unplaced k ys) other
row_same m n k xs ys row other e p q h = subst (Row m (unplaced k ys)) q (subst (λ (zs : List ℕ). Row m (unplaced k zs) row) p (subst (λ (j : ℕ). Row m (unplaced j xs) row) e h))

-- one placing further
reached_more : (m : Meaning) (w t : Walk) → Walked m w → standing t ≡ step m (standing w) → (k : ℕ) × (standing t ≡ after m k)
unfolding after
reached_more m w t v e = (suc v.reached.0, e ∙ ap (step m) v.reached.1)

-- a placing above level 1
module _ (m : Meaning) (laws : Lawful m) (w : Walk) (v : Walked m w) (o : w.stage ≡ Open) (flow : ℕ) (chosen : flow ≡ choice_of w) (x : Walk) (p : Put flow w x) (ne : w.level ≡ 1 → ⊥) (y : Walk) (low : Lowered x y) (z : Walk) (q : Entered m y z) (t : Walk) (k : MovedOn z t) where
  abbrev g : ℕ
  g = flow

  abbrev fs : List Frame
  fs = below_of w w.level

  abbrev frame : Frame
  frame = record { flow = g; untried = put (untried_of w) g false }

  level_is : y.level ≡ w.level - 1
  level_is = low.level ∙ ap (λ (i : ℕ). i - 1) p.level

  flows_are : y.flows ≡ m.flows
  flows_are = low.flows ∙ p.flows ∙ v.flows

  order_low : order_of y ≡ order_of x
  order_low = ap (λ (n : ℕ). take n y.placed) low.flows ∙ ap (take x.flows) low.placed

  order_is : order_of z ≡ order_of x
  order_is = ap (λ (n : ℕ). take n z.placed) q.flows ∙ ap (take y.flows) q.placed ∙ order_low

  free_is : free_of y ≡ unplaced m.flows (placed (frame ∷ fs))
  free_is =
      ap (λ (n : ℕ). unplaced n (drop y.level (order_of y))) flows_are
      ∙ ap (unplaced m.flows) (ap (drop y.level) order_low ∙ ap (λ (i : ℕ). drop i (order_of x)) level_is ∙ put_filled m laws w v o flow chosen x p ∙ ap (λ (xs : List ℕ). g ∷ xs) (sym (below_placed m laws w v o)))

  below_is : below_of z z.level ≡ frame ∷ fs
  below_is =
      ap (λ (xs : List ℕ). frames (drop z.level xs) (drop z.level (masks z))) order_is
      ∙ ap (λ (i : ℕ). frames (drop i (order_of x)) (drop i (masks z))) q.level
      ∙ ap (frames (drop y.level (order_of x))) (q.below ∙ ap (λ (cs : List Candidates). drop y.level (map (λ (c : Candidates). marks_of c.set) cs)) low.candidates)
      ∙ ap (λ (i : ℕ). frames (drop i (order_of x)) (drop i (masks x))) level_is
      ∙ put_frames m laws w v o flow chosen x p

  entered_is : moving z ≡ enter m (suc w.count) w.sure (frame ∷ fs)
  unfolding enter
  entered_is =
      settle_same z.count (suc w.count) z.sure (settled_by_ceiling m w.sure (unplaced m.flows (placed (frame ∷ fs)))) (untried_of z) (candidates m w.sure (unplaced m.flows (placed (frame ∷ fs)))) (below_of z z.level) (frame ∷ fs)
      (q.count ∙ low.count ∙ put_count m laws w v o flow chosen x p)
      (q.sure flows_are ∙ ap (λ (s : Bool). settled_by_ceiling m s (free_of y)) (low.sure ∙ p.sure) ∙ ap (settled_by_ceiling m w.sure) free_is)
      (q.untried flows_are ∙ ap (λ (s : Bool). candidates m s (free_of y)) (low.sure ∙ p.sure) ∙ ap (candidates m w.sure) free_is)
      below_is

  step_is : step m (standing w) ≡ enter m (suc w.count) w.sure (frame ∷ fs)
  unfolding place
  step_is =
      ap (step m) (here m laws w v o) ∙ ap (place m (suc w.count) w.sure (untried_of w) fs) (sym (flow_next m laws w v o flow chosen x p))
      ∙ cond-false (eqb (suc (length fs)) m.flows) _ (enter m (suc w.count) w.sure (frame ∷ fs)) (ne_eqb (suc (length fs)) m.flows (λ e. ne (let l = below_length m laws w v o in let n = v.flows in omega arith)))

  still_open : z.stage ≡ Open
  still_open = q.stage ∙ low.stage ∙ p.stage ∙ o

  pub descended_stands : standing t ≡ step m (standing w)
  descended_stands = k.stands still_open ∙ entered_is ∙ sym step_is

  flows_kept : t.flows ≡ w.flows
  flows_kept = k.same.flows ∙ q.flows ∙ low.flows ∙ p.flows

  order_kept : order_of x ≡ order_of t
  order_kept = sym (ap (λ (n : ℕ). take n t.placed) k.same.flows ∙ ap (take z.flows) k.same.placed ∙ order_is)

  rows_kept : (i : ℕ) → t.level ≤ suc i → i < t.flows → Row m (unplaced t.flows (filled t (suc i))) (get_or (slacks t) i [])
  rows_kept i h l = ⊎_elim new old (cases_eq (suc i) (w.level - 1))
    where
      new : suc i ≡ w.level - 1 → Row m (unplaced t.flows (filled t (suc i))) (get_or (slacks t) i [])
      new e =
          let f : y.level ≡ suc i = level_is ∙ sym e in
          let j : y.level - 1 ≡ i = omega arith in
          row_same m y.flows t.flows (filled y y.level) (filled t (suc i)) (get_or (slacks z) (y.level - 1) []) (get_or (slacks t) i [])
          (sym (k.same.flows ∙ q.flows)) (ap (drop y.level) order_low ∙ ap (λ (n : ℕ). drop n (order_of x)) f ∙ ap (drop (suc i)) order_kept)
          (ap (λ (n : ℕ). get_or (slacks z) n []) j ∙ ap (row_in i) (sym k.same.candidates)) (q.row flows_are)

      old : (suc i ≡ w.level - 1 → ⊥) → Row m (unplaced t.flows (filled t (suc i))) (get_or (slacks t) i [])
      old d =
          let a = k.lower in
          let c = q.level in
          let f = level_is in
          let n = flows_kept in
          let past : w.level ≤ suc i = omega arith in
          let from : y.level ≤ i = omega arith in
          row_same m w.flows t.flows (drop (suc i) (order_of x)) (filled t (suc i)) (get_or (slacks w) i []) (get_or (slacks t) i []) (sym flows_kept) (ap (drop (suc i)) order_kept)
          (sym (ap (row_in i) k.same.candidates ∙ q.rows i from ∙ ap (row_in i) low.candidates ∙ ap (λ (rs : List (List ℕ)). get_or rs i []) p.slack))
          (put_rows m laws w v o flow chosen x p i past (omega arith))

  pub descended_walked : Walked m t
  descended_walked =
      record {
        flows = flows_kept ∙ v.flows;
        rows = rows_kept;
        bounds = λ ticks e. absurd (order_open ticks (sym still_open ∙ k.was_order ticks e));
        reached = reached_more m w t v descended_stands;
      }

-- a placing on level 1
module _ (m : Meaning) (laws : Lawful m) (w : Walk) (v : Walked m w) (o : w.stage ≡ Open) (flow : ℕ) (chosen : flow ≡ choice_of w) (x : Walk) (p : Put flow w x) (one : w.level ≡ 1) (y : Walk) (q : Tested m x y) (t : Walk) (k : MovedOn y t) where
  abbrev last : ℕ
  last = next m (untried_of w) (below_of w w.level)

  abbrev lower_levels : List Frame
  lower_levels = below_of w w.level

  order_put : order_of x ≡ last ∷ placed lower_levels
  order_put =
      let e : w.level - 1 ≡ 0 = omega arith in
      ap (λ (i : ℕ). drop i (order_of x)) (sym e) ∙ put_filled m laws w v o flow chosen x p
      ∙ ap (λ (i : ℕ). i ∷ filled w w.level) (flow_next m laws w v o flow chosen x p) ∙ ap (λ (xs : List ℕ). last ∷ xs) (sym (below_placed m laws w v o))

  proper_order : distinct m.flows (order_of x) ≡ true
  proper_order =
      let s = open_stands m laws w v o in
      ap (distinct m.flows) order_put
      ∙ order_distinct' m laws w.count w.sure (untried_of w) lower_levels s.0 last (next_untried m (untried_of w) lower_levels s.1)

  step_tests : step m (standing w) ≡ cond (passes m (order_of x)) (found (suc w.count) (order_of x)) (settle (suc w.count) false (put (untried_of w) last false) lower_levels)
  unfolding place
  step_tests =
      ap (step m) (here m laws w v o)
      ∙ cond-true (eqb (suc (length lower_levels)) m.flows) _ _ (eq-eqb (suc (length lower_levels)) m.flows (let l = below_length m laws w v o in let n = v.flows in omega arith))
      ∙ ap (λ (xs : List ℕ). cond (passes m xs) (found (suc w.count) xs) (settle (suc w.count) false (put (untried_of w) last false) lower_levels)) (sym order_put)

  masks_same : masks y ≡ masks x
  masks_same = ap (map (λ (c : Candidates). marks_of c.set)) q.candidates

  order_same : order_of y ≡ order_of x
  order_same = ap (λ (n : ℕ). take n y.placed) q.flows ∙ ap (take x.flows) q.placed

  level_same : y.level ≡ w.level
  level_same = q.level ∙ p.level

  -- the level is taken up again
  failed_moves : y.sure ≡ false → moving y ≡ settle (suc w.count) false (put (untried_of w) last false) lower_levels
  failed_moves s =
      settle_same y.count (suc w.count) y.sure false (untried_of y) (put (untried_of w) last false) (below_of y y.level) lower_levels (q.count ∙ put_count m laws w v o flow chosen x p) s
      (ap (λ (i : ℕ). get_or (masks y) (i - 1) []) level_same ∙ ap (λ (ss : List (List Bool)). get_or ss (w.level - 1) []) masks_same ∙ put_untried_at m laws w v o flow chosen x p ∙ ap (λ (i : ℕ). put (untried_of w) i false) (flow_next m laws w v o flow chosen x p))
      (ap (λ (i : ℕ). frames (drop i (order_of y)) (drop i (masks y))) level_same ∙ ap (λ (xs : List ℕ). frames (drop w.level xs) (drop w.level (masks y))) order_same ∙ ap (λ (ss : List (List Bool)). frames (drop w.level (order_of x)) (drop w.level ss)) masks_same ∙ put_below m laws w v o flow chosen x p)

  order_to : order_of t ≡ order_of x
  order_to = ap (λ (n : ℕ). take n t.placed) k.same.flows ∙ ap (take y.flows) k.same.placed ∙ order_same

  by_test : (b : Bool) → passes m (order_of x) ≡ b → Passed m x y.stage y.sure b → standing t ≡ cond b (found (suc w.count) (order_of x)) (settle (suc w.count) false (put (untried_of w) last false) lower_levels)
  by_test true e s =
      let c : t.count ≡ suc w.count = k.same.count ∙ q.count ∙ put_count m laws w v o flow chosen x p in
      ap (λ (z : Stage). standing_by z t) (k.kept_order (table (leading m [] (order_of x))).ticks s) ∙ ap (λ (n : ℕ). found n (order_of t)) c ∙ ap (found (suc w.count)) order_to
  by_test false e s = k.stands (s.0 ∙ p.stage ∙ o) ∙ failed_moves s.1

  pub tried_stands : standing t ≡ step m (standing w)
  tried_stands = by_test (passes m (order_of x)) refl (q.passed proper_order) ∙ sym step_tests

  told : (b : Bool) → Passed m x y.stage y.sure b → (ticks : List ℕ) → t.stage ≡ Order ticks → ticks ≡ (table (leading m [] (order_of t))).ticks
  told true s ticks e =
      let same : ticks ≡ (table (leading m [] (order_of x))).ticks = let q = sym e ∙ k.kept_order (table (leading m [] (order_of x))).ticks s in cc in
      same ∙ ap (λ (xs : List ℕ). (table (leading m [] xs)).ticks) (sym order_to)
  told false s ticks e = absurd (order_open ticks (sym (s.0 ∙ p.stage ∙ o) ∙ k.was_order ticks e))

  rows_still : (i : ℕ) → t.level ≤ suc i → i < t.flows → Row m (unplaced t.flows (filled t (suc i))) (get_or (slacks t) i [])
  rows_still i h l =
      let a = k.lower in
      let c = level_same in
      let n : t.flows ≡ w.flows = k.same.flows ∙ q.flows ∙ p.flows in
      row_same m w.flows t.flows (drop (suc i) (order_of x)) (filled t (suc i)) (get_or (slacks w) i []) (get_or (slacks t) i []) (sym n) (ap (drop (suc i)) (sym order_to))
      (sym (ap (row_in i) (k.same.candidates ∙ q.candidates) ∙ ap (λ (rs : List (List ℕ)). get_or rs i []) p.slack)) (put_rows m laws w v o flow chosen x p i (omega arith) (omega arith))

  pub tried_walked : Walked m t
  tried_walked =
      record {
        flows = k.same.flows ∙ q.flows ∙ p.flows ∙ v.flows;
        rows = rows_still;
        bounds = told (passes m (order_of x)) (q.passed proper_order);
        reached = reached_more m w t v tried_stands;
      }

-- what the next candidate tells
chosen_some : (table : List ℕ) (set : List Bool) (f : ℕ) → Some f ≡ chosen_by table set → f ≡ choice_by table set
chosen_some table set f e = each (empty set) e
  where
    each : (b : Bool) → Some f ≡ cond b None (Some (choice_by table set)) → f ≡ choice_by table set
    each true q = let z : ◌≡◌ {A = ℕ} 0 1 = cc in absurd (omega arith)
    each false q = cc

chosen_none : (table : List ℕ) (set : List Bool) → None ≡ chosen_by table set → empty set ≡ true
chosen_none table set e = each (empty set) refl e
  where
    each : (b : Bool) → empty set ≡ b → None ≡ cond b None (Some (choice_by table set)) → empty set ≡ true
    each true d q = d
    each false d q = let z : ◌≡◌ {A = ℕ} 0 1 = cc in absurd (omega arith)

pub next_tells : (w : Walk) (f : ℕ) → Some f ≡ next_of w → (w.stage ≡ Open) × (f ≡ choice_of w)
next_tells w f e = each w.stage refl e
  where
    each : (s : Stage) → w.stage ≡ s → Some f ≡ next_by s w → (w.stage ≡ Open) × (f ≡ choice_of w)
    each Open d q = (d, chosen_some (slack_of w) (untried_of w) f q)
    each (Order bounds) d q = let z : ◌≡◌ {A = ℕ} 0 1 = cc in absurd (omega arith)
    each NoOrder d q = let z : ◌≡◌ {A = ℕ} 0 1 = cc in absurd (omega arith)

-- no placing of an ended walk
pub stayed : (m : Meaning) → Lawful m → (w : Walk) → Walked m w → None ≡ next_of w → standing w ≡ step m (standing w)
stayed m laws w v e = each w.stage refl e
  where
    each : (s : Stage) → w.stage ≡ s → None ≡ next_by s w → standing_by s w ≡ step m (standing_by s w)
    each Open d q = absurd (both_ways (empty (untried_of w)) (open_stands m laws w v d).1 (chosen_none (slack_of w) (untried_of w) q))
    each (Order bounds) d q = refl
    each NoOrder d q = refl
