-- How many placings the walk makes: each is counted, and those due never exceed the most. Assumes nothing.
--   placed-count     a placing counts one
--   owed             the most placings that the untried candidates can still give
--   Due              the placings made and owed are within the most
--   step_due         a placing keeps that
--   most_mono        with more flows the most is more
use Rattle.std.proofs.Common.{◌≡◌, ℕ, zero, suc, ◌+◌, ◌-◌, ◌*◌, ◌^◌, ◌<◌, ◌≤◌, Bool, true, false, cond, eqb, List, [], ◌∷◌, ◌++◌, length, get_or, sym, refl, ◌∙◌, subst, mul-le-mul_right, mul-le-mul_left, arith, lit<}
use lib.ListN as ListN
use Rattle.std.proofs.lemmas.Bool.Decides.{nat_tests}
use Rattle.std.proofs.lemmas.Bool.{both_ways, eqb-false}
use Rattle.std.proofs.lemmas.List.{length-append}
use Rattle.rule.specs.Lists.{is_flow, times, distinct, has}
use Rattle.rule.specs.FlowSets.{put, empty, size, members}
use Rattle.rule.specs.Laws.{Lawful}
use Rattle.rule.specs.Meaning.{Meaning}
use Rattle.rule.proofs.Members.{among_times, times_append, times_members, size_members}
use Rattle.rule.proofs.Distinct.{distinct_times, times_distinct}
use Rattle.walk.specs.Walk.{Frame, State, going, found, nothing, placed, unplaced, settled_by_ceiling, candidates, settle, enter, next, passes, place, step, count_of}
use Rattle.walk.specs.WalkLaw.{most_placings}
use Rattle.walk.proofs.Orders.{has_unplaced, distinct_fits}
use Rattle.walk.proofs.Stands.{Level, Filled, Open, Stands, placed_distinct, placed_length, place_opens, start_open, next_untried}

-- the count is kept on the way to the next placing
settle_count : (count : ℕ) (sure : Bool) (untried : List Bool) (below : List Frame) → count_of (settle count sure untried below) ≡ count
settle_count count sure untried [] = each (empty untried)
  where
    each : (b : Bool) → count_of (cond b (nothing count) (going count sure untried [])) ≡ count
    each true = refl
    each false = refl
settle_count count sure untried (f ∷ fs) = each (empty untried) (settle_count count false f.untried fs)
  where
    each : (b : Bool) → count_of (settle count false f.untried fs) ≡ count → count_of (cond b (settle count false f.untried fs) (going count sure untried (f ∷ fs))) ≡ count
    each true h = h
    each false h = refl

pub enter_count : (m : Meaning) (count : ℕ) (sure : Bool) (below : List Frame) → count_of (enter m count sure below) ≡ count
unfolding enter
enter_count m count sure below = settle_count count (settled_by_ceiling m sure (unplaced m.flows (placed below))) (candidates m sure (unplaced m.flows (placed below))) below

pub place_count : (m : Meaning) (count : ℕ) (sure : Bool) (untried : List Bool) (below : List Frame) (f : ℕ) → count_of (place m count sure untried below f) ≡ count
unfolding place
place_count m count sure untried below f = each (eqb (suc (length below)) m.flows) (passes m (f ∷ placed below))
  where
    each : (full pass : Bool) → count_of (cond full (cond pass (found count (f ∷ placed below)) (settle count false (put untried f false) below)) (enter m count sure (record { flow = f; untried = put untried f false } ∷ below))) ≡ count
    each true true = refl
    each true false = settle_count count false (put untried f false) below
    each false pass = enter_count m count sure (record { flow = f; untried = put untried f false } ∷ below)

-- the most placings that levels below can still give, the nearest with k levels above it
abbrev pub owed_below : ℕ → List Frame → ℕ
owed_below k [] = 0
owed_below k (f ∷ fs) = size f.untried * (1 + most_placings k) + owed_below (suc k) fs

-- the same with a level to be filled that has k levels above it
abbrev pub owed : ℕ → List Bool → List Frame → ℕ
owed k untried below = size untried * (1 + most_placings k) + owed_below (suc k) below

-- the placings made and owed are within the most
abbrev pub Due : Meaning → State → Type 0
Due m (going count sure untried below) = (k : ℕ) → k + suc (length below) ≡ m.flows → count + owed k untried below ≤ most_placings m.flows
Due m (found count order) = count ≤ most_placings m.flows
Due m (nothing count) = count ≤ most_placings m.flows

empty_size : (set : List Bool) → empty set ≡ true → size set ≡ 0
empty_size [] e = refl
empty_size (true ∷ set) e = absurd (both_ways false refl e)
empty_size (false ∷ set) e = let t = empty_size set e in omega arith

same_levels : (m : Meaning) (n k j : ℕ) → k + n ≡ m.flows → j + n ≡ m.flows → j ≡ k
same_levels m n k j p q = omega arith

settle_due : (m : Meaning) (count : ℕ) (sure : Bool) (untried : List Bool) (below : List Frame) (k : ℕ) → k + suc (length below) ≡ m.flows → count + owed k untried below ≤ most_placings m.flows → Due m (settle count sure untried below)
settle_due m count sure untried [] k l h = each (empty untried) refl
  where
    each : (b : Bool) → empty untried ≡ b → Due m (cond b (nothing count) (going count sure untried []))
    each true e = omega arith
    each false e = λ j q. rw (same_levels m 1 k j l q) h
settle_due m count sure untried (f ∷ fs) k l h = each (empty untried) refl (λ p q. settle_due m count false f.untried fs (suc k) p q)
  where
    each : (b : Bool) → empty untried ≡ b → (suc k + suc (length fs) ≡ m.flows → count + owed (suc k) f.untried fs ≤ most_placings m.flows → Due m (settle count false f.untried fs)) → Due m (cond b (settle count false f.untried fs) (going count sure untried (f ∷ fs)))
    each true e g = g (omega arith) (omega arith)
    each false e g = λ j q. rw (same_levels m (suc (length (f ∷ fs))) k j l q) h

-- a level has no more candidates than there are flows left
level_size : (m : Meaning) → Lawful m → (untried : List Bool) (below : List Frame) → Level m untried below → Filled m below → size untried + length below ≤ m.flows
level_size m laws untried below v f =
    let d = placed_distinct m laws below f in
    let all = distinct_fits m.flows laws.few_flows (members untried ++ placed below) (times_distinct m.flows (members untried ++ placed below) (each d)) in
    omega (arith, length-append (members untried) (placed below), size_members 1 untried, placed_length below)
  where
    each : distinct m.flows (placed below) ≡ true → (g : ℕ) → times g (members untried ++ placed below) ≤ cond (is_flow m.flows g) 1 0
    each d g = one (has untried g) refl
      where
        one : (b : Bool) → has untried g ≡ b → times g (members untried ++ placed below) ≤ cond (is_flow m.flows g) 1 0
        one b e =
            let t = times_append g (members untried) (placed below) in
            let u = times_members g untried in
            let w = distinct_times m.flows (placed below) d g in
            let x = among_times g (placed below) in
            let y = has_unplaced m.flows laws.few_flows (placed below) g in
            let z = v.free g in
            grind (arith, nat_tests)

-- entering a level with k above it
enter_due : (m : Meaning) → Lawful m → (count : ℕ) (sure : Bool) (below : List Frame) (k : ℕ) → k + suc (length below) ≡ m.flows → Open m (settled_by_ceiling m sure (unplaced m.flows (placed below))) (candidates m sure (unplaced m.flows (placed below))) below → count + (most_placings (suc k) + owed_below (suc k) below) ≤ most_placings m.flows → Due m (enter m count sure below)
unfolding enter
enter_due m laws count sure below k l o h =
    let free = unplaced m.flows (placed below) in
    let s = level_size m laws (candidates m sure free) below o.level o.filled in
    let small : size (candidates m sure free) ≤ suc k = omega arith in
    let t = mul-le-mul_right (1 + most_placings k) small in
    settle_due m count (settled_by_ceiling m sure free) (candidates m sure free) below k l (omega arith)

-- the first level
pub start_due : (m : Meaning) → Lawful m → Due m (enter m 0 true [])
start_due m laws = each m.flows refl laws.some_flow
  where
    each : (n : ℕ) → m.flows ≡ n → 1 ≤ n → Due m (enter m 0 true [])
    each zero e h = absurd (omega arith)
    each (suc k) e h = enter_due m laws 0 true [] k (sym (e ∙ omega arith)) (start_open m laws) (rw e (omega arith))

size_less : (set : List Bool) (i : ℕ) → get_or set i false ≡ true → size set ≡ suc (size (ListN.set set i false))
size_less [] i e = absurd (both_ways false refl e)
size_less (true ∷ set) zero e = omega arith
size_less (false ∷ set) zero e = absurd (both_ways false refl e)
size_less (true ∷ set) (suc i) e = let t = size_less set i e in omega arith
size_less (false ∷ set) (suc i) e = let t = size_less set i e in omega arith

-- a flow taken out of a set that has it
size_out : (set : List Bool) (f : ℕ) → has set f ≡ true → size set ≡ suc (size (put set f false))
size_out set zero e = absurd (both_ways false refl e)
size_out set (suc i) e = size_less set i e

-- a placing, with k levels above its own
module _ (m : Meaning) (laws : Lawful m) (count : ℕ) (sure : Bool) (untried : List Bool) (below : List Frame) (o : Open m sure untried below) (f : ℕ) (member : has untried f ≡ true) (k : ℕ) (at : k + suc (length below) ≡ m.flows) (due : count + owed k untried below ≤ most_placings m.flows) where
  abbrev rest : List Bool
  rest = put untried f false

  paid : suc count + (most_placings k + (size rest * (1 + most_placings k) + owed_below (suc k) below)) ≤ most_placings m.flows
  paid =
      let e = size_out untried f member in
      let q : size untried * (1 + most_placings k) ≡ (1 + most_placings k) + size rest * (1 + most_placings k) = rw e (omega arith) in
      omega arith

  test_due : Due m (cond (passes m (f ∷ placed below)) (found (suc count) (f ∷ placed below)) (settle (suc count) false rest below))
  test_due = each (passes m (f ∷ placed below))
    where
      each : (b : Bool) → Due m (cond b (found (suc count) (f ∷ placed below)) (settle (suc count) false rest below))
      each true = let p = paid in omega arith
      each false = let p = paid in settle_due m (suc count) false rest below k at (omega arith)

  next_due : (suc (length below) ≡ m.flows → ⊥) → Due m (enter m (suc count) sure (record { flow = f; untried = rest } ∷ below))
  next_due ne = each k refl
    where
      each : (j : ℕ) → k ≡ j → Due m (enter m (suc count) sure (record { flow = f; untried = rest } ∷ below))
      each zero e = absurd (ne (let a = at in omega arith))
      each (suc j) e =
          let a = at in
          let p = subst (λ (i : ℕ). suc count + (most_placings i + (size rest * (1 + most_placings i) + owed_below (suc i) below)) ≤ most_placings m.flows) e paid in
          enter_due m laws (suc count) sure (record { flow = f; untried = rest } ∷ below) j (omega arith) (place_opens m laws count sure untried below o f member ne) p

  place_due : Due m (place m (suc count) sure untried below f)
  unfolding place
  place_due = each (eqb (suc (length below)) m.flows) refl
    where
      each : (b : Bool) → eqb (suc (length below)) m.flows ≡ b → Due m (cond b (cond (passes m (f ∷ placed below)) (found (suc count) (f ∷ placed below)) (settle (suc count) false rest below)) (enter m (suc count) sure (record { flow = f; untried = rest } ∷ below)))
      each true e = test_due
      each false e = next_due (eqb-false (suc (length below)) m.flows e)

pub step_due : (m : Meaning) → Lawful m → (s : State) → Stands m s → Due m s → Due m (step m s)
step_due m laws (going count sure untried below) p d =
    let r = p.0.room in
    let at : (m.flows - suc (length below)) + suc (length below) ≡ m.flows = omega arith in
    place_due m laws count sure untried below p.0 (next m untried below) (next_untried m untried below p.1) (m.flows - suc (length below)) at (d (m.flows - suc (length below)) at)
step_due m laws (found count order) p d = d
step_due m laws (nothing count) p d = d

some_size : (set : List Bool) → empty set ≡ false → 1 ≤ size set
some_size [] e = absurd (both_ways true e refl)
some_size (true ∷ set) e = omega arith
some_size (false ∷ set) e = let t = some_size set e in omega arith

-- a walk that goes on has made fewer placings than the most
pub going_less : (m : Meaning) (count : ℕ) (sure : Bool) (untried : List Bool) (below : List Frame) → Stands m (going count sure untried below) → Due m (going count sure untried below) → count < most_placings m.flows
going_less m count sure untried below p d =
    let r = p.0.room in
    let s = some_size untried p.1 in
    let k = m.flows - suc (length below) in
    let t = mul-le-mul_right (1 + most_placings k) s in
    omega (arith, d k (omega arith))

-- with more flows the most is more
most_mono : (n k : ℕ) → most_placings n ≤ most_placings (n + k)
most_mono zero k = omega arith
most_mono (suc n) k =
    let e : suc n + k ≡ suc (n + k) = omega arith in
    let t = most_mono n k in
    let more : suc n ≤ suc (n + k) = omega arith in
    let u = mul-le-mul_right (1 + most_placings n) more in
    let w : 1 + most_placings n ≤ 1 + most_placings (n + k) = omega arith in
    let v = mul-le-mul_left (suc (n + k)) w in
    rw e (omega arith)

-- the most placings with up to 20 flows
pub most_small : (n : ℕ) → n ≤ 20 → most_placings n < 2 ^ 63
most_small n h =
    let e : n + (20 - n) ≡ 20 = omega arith in
    let t : most_placings n ≤ most_placings 20 = rw e at (most_mono n (20 - n)) in
    let u : most_placings 20 < 2 ^ 63 = lit< tt in
    omega arith
