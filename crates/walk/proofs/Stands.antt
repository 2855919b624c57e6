-- What holds of the walk wherever it stands: candidates are unplaced flows, and no order that passes is lost. Assumes nothing.
--   Level, Filled    the candidates of a level and the levels below it are sound
--   Leads, Left      some untried candidate leads to an order that passes
--   Stands           what holds of a state
--   enter_stands, step_stands    entering a level and a placing keep it
use Rattle.std.proofs.Common.{◌≡◌, ℕ, suc, ◌<◌, ◌≤◌, Bool, true, false, cond, not, eqb, ◌⊎◌, List, [], ◌∷◌, length, is_some, sym, refl, ap, ◌∙◌, subst, inl, inr, ⊎_elim, arith}
use Rattle.std.proofs.lemmas.Bool.Decides.{nat_tests}
use Rattle.std.proofs.lemmas.Bool.{both_ways, cases_eq, and_parts, not-true, eqb-true, eqb-false}
use Rattle.rule.specs.Lists.{is_flow, among, distinct, marks, has}
use Rattle.rule.specs.FlowSets.{put, empty}
use Rattle.rule.specs.Laws.{Lawful}
use Rattle.rule.specs.Meaning.{Meaning}
use Rattle.rule.proofs.Members.{marks_length, has_marks}
use Rattle.rule.proofs.Distinct.{flow_range, has_outside}
use Rattle.walk.specs.Walk.{Frame, State, going, found, nothing, placed, unplaced, floor_at, ceiling_at, floor_slack, ceiling_slack, with_floor, with_ceiling, by_ceiling, settled_by_ceiling, candidates, settle, enter, next, passes, place, step}
use Rattle.walk.specs.WalkLaw.{SoundOrder}
use Rattle.walk.proofs.Chosen.{has_keep, keep_length, some_empty, chosen}
use Rattle.walk.proofs.Sets.{has_put_same, has_put_other, put_length}
use Rattle.walk.proofs.Orders.{unplaced_length, has_unplaced, full_order}
use Rattle.walk.proofs.Passing.{passes_true, passes_test, passes_timely}
use Rattle.walk.proofs.Hopes.{Hope, Ceilings, hope_ceiling, hope_floor, hope_full}

-- the candidates of a level are unplaced flows
pub record Level (m : Meaning) (untried : List Bool) (below : List Frame) : Type 0 where
  pub sized : length untried ≡ 20
  pub free : (g : ℕ) → has untried g ≡ true → has (unplaced m.flows (placed below)) g ≡ true

-- so are those of each level below, and the flow on it
abbrev pub Filled : Meaning → List Frame → Type 0
Filled m [] = Unit {0}
Filled m (f ∷ fs) = Level m f.untried fs × (has (unplaced m.flows (placed fs)) f.flow ≡ true) × Filled m fs

-- some untried candidate of a level leads to an order that passes
abbrev pub Leads : Meaning → List Bool → List Frame → Type 0
Leads m untried below = (g : ℕ) × (has untried g ≡ true) × Hope m (g ∷ placed below)

-- some untried candidate of a level below does
abbrev pub Left : Meaning → List Frame → Type 0
Left m [] = ⊥
Left m (f ∷ fs) = Leads m f.untried fs ⊎ Left m fs

-- a level settled by ceiling, as every lower one: the flows below and its candidates have ceilings
abbrev pub ByCeiling : Meaning → List Bool → List Frame → Type 0
ByCeiling m untried below = Ceilings m (placed below) × ((g : ℕ) → has untried g ≡ true → is_some (ceiling_at m (unplaced m.flows (placed below)) g) ≡ true)

-- what holds of a level to be filled
pub record Open (m : Meaning) (sure : Bool) (untried : List Bool) (below : List Frame) : Type 0 where
  pub room : length below < m.flows
  pub level : Level m untried below
  pub filled : Filled m below
  pub ceilings : sure ≡ true → ByCeiling m untried below
  pub left : Hope m [] → Leads m untried below ⊎ Left m below

-- what holds of a state
abbrev pub Stands : Meaning → State → Type 0
Stands m (going count sure untried below) = Open m sure untried below × (empty untried ≡ false)
Stands m (found count order) = SoundOrder m order
Stands m (nothing count) = Hope m [] → ⊥

no_candidate : (m : Meaning) (untried : List Bool) (below : List Frame) → empty untried ≡ true → Leads m untried below → ⊥
no_candidate m untried below e l = both_ways (empty untried) (some_empty untried l.0 l.1) e

-- moving on over levels with no candidate left
pub settle_stands : (m : Meaning) (count : ℕ) (sure : Bool) (untried : List Bool) (below : List Frame) → Open m sure untried below → Stands m (settle count sure untried below)
settle_stands m count sure untried [] o = each (empty untried) refl
  where
    each : (b : Bool) → empty untried ≡ b → Stands m (cond b (nothing count) (going count sure untried []))
    each true e = λ h. ⊎_elim (no_candidate m untried [] e) (λ (z : ⊥). z) (o.left h)
    each false e = (o, e)
settle_stands m count sure untried (f ∷ fs) o = each (empty untried) refl (λ q. settle_stands m count false f.untried fs q)
  where
    each : (b : Bool) → empty untried ≡ b → (Open m false f.untried fs → Stands m (settle count false f.untried fs)) → Stands m (cond b (settle count false f.untried fs) (going count sure untried (f ∷ fs)))
    each true e h =
        h
        (record {
          room = let r = o.room in omega arith;
          level = o.filled.0;
          filled = o.filled.2;
          ceilings = λ z. absurd (both_ways false refl z);
          left = λ p. ⊎_elim (λ l. absurd (no_candidate m untried (f ∷ fs) e l)) (λ (l : Left m (f ∷ fs)). l) (o.left p);
        })
    each false e h = (o, e)

-- the flows placed are without repeats
pub placed_distinct : (m : Meaning) → Lawful m → (below : List Frame) → Filled m below → distinct m.flows (placed below) ≡ true
placed_distinct m laws [] f = refl
placed_distinct m laws (x ∷ xs) f =
    let t = placed_distinct m laws xs f.2 in
    let u = sym (has_unplaced m.flows laws.few_flows (placed xs) x.flow) ∙ f.1 in
    grind (arith, nat_tests)

-- as many as there are levels below
pub placed_length : (below : List Frame) → length (placed below) ≡ length below
placed_length [] = refl
placed_length (f ∷ fs) = ap suc (placed_length fs)

-- the set of one flow
has_one : (g h : ℕ) → has (marks (g ∷ [])) h ≡ true → h ≡ g
has_one g h e = each (is_flow 20 h) refl
  where
    each : (b : Bool) → is_flow 20 h ≡ b → h ≡ g
    each false q = absurd (both_ways (has (marks (g ∷ [])) h) (has_outside (marks (g ∷ [])) h (marks_length (g ∷ [])) q) e)
    each true q =
        let r = flow_range 20 h q in
        let t : among h (g ∷ []) ≡ true = sym (has_marks h (g ∷ []) r.0 r.1) ∙ e in
        grind (arith, nat_tests)

-- entering a level
module _ (m : Meaning) (laws : Lawful m) (count : ℕ) (sure : Bool) (below : List Frame) (room : length below < m.flows) (filled : Filled m below) (ceilings : sure ≡ true → Ceilings m (placed below)) (left : Hope m [] → Hope m (placed below) ⊎ Left m below) where
  abbrev free : List Bool
  free = unplaced m.flows (placed below)

  enter_by_floor : Open m false (with_floor m free) below
  enter_by_floor =
      record {
        room = room;
        level = record { sized = keep_length (λ f. is_some (floor_at m free f)) free ∙ unplaced_length m.flows (placed below); free = λ g h. kept g h };
        filled = filled;
        ceilings = λ z. absurd (both_ways false refl z);
        left = λ h. ⊎_elim (λ (p : Hope m (placed below)). inl (hope_floor m laws (placed below) short p)) (λ (l : Left m below). inr l) (left h);
      }
    where
      kept : (g : ℕ) → has (with_floor m free) g ≡ true → has free g ≡ true
      kept g h = (and_parts (has free g) (is_some (floor_at m free g)) (sym (has_keep (λ f. is_some (floor_at m free f)) free g) ∙ h)).0

      short : length (placed below) < m.flows
      short = let e = placed_length below in omega arith

  abbrev one : ℕ
  one = by_ceiling m free

  enter_by_ceiling : settled_by_ceiling m sure free ≡ true → Open m true (marks (one ∷ [])) below
  enter_by_ceiling e =
      record {
        room = room;
        level = record { sized = marks_length (one ∷ []); free = λ g h. rw (has_one one g h) kept.0 };
        filled = filled;
        ceilings = λ z. (ceilings both.0, λ g h. rw (has_one one g h) kept.1);
        left = λ h. ⊎_elim (λ (p : Hope m (placed below)). inl (one, member, hope_ceiling m laws one (placed below) (kept.1, ceilings both.0) kept.0 p)) (λ (l : Left m below). inr l) (left h);
      }
    where
      both : (sure ≡ true) × (not (empty (with_ceiling m free)) ≡ true)
      both = and_parts sure (not (empty (with_ceiling m free))) e

      kept : (has free one ≡ true) × (is_some (ceiling_at m free one) ≡ true)
      kept =
          and_parts (has free one) (is_some (ceiling_at m free one))
          (sym (has_keep (λ f. is_some (ceiling_at m free f)) free one) ∙ (chosen (ceiling_slack m free) (with_ceiling m free) (not-true (empty (with_ceiling m free)) both.1)).inside)

      member : has (marks (one ∷ [])) one ≡ true
      member =
          let f = and_parts (is_flow m.flows one) (not (among one (placed below))) (sym (has_unplaced m.flows laws.few_flows (placed below) one) ∙ kept.0) in
          let r = flow_range m.flows one f.0 in
          let s = r.1 in
          let l = laws.few_flows in
          has_marks one (one ∷ []) r.0 (omega arith) ∙ grind (arith, nat_tests)

  -- a level that is entered
  pub enter_open : Open m (settled_by_ceiling m sure free) (candidates m sure free) below
  unfolding candidates
  enter_open = each (settled_by_ceiling m sure free) refl
    where
      each : (b : Bool) → settled_by_ceiling m sure free ≡ b → Open m b (cond b (marks (one ∷ [])) (with_floor m free)) below
      each true e = enter_by_ceiling e
      each false e = enter_by_floor

  pub enter_stands : Stands m (enter m count sure below)
  unfolding enter
  enter_stands = settle_stands m count (settled_by_ceiling m sure free) (candidates m sure free) below enter_open

-- a flow less among the candidates
module _ (untried : List Bool) (f : ℕ) where
  pub still_untried : (g : ℕ) → (g ≡ f → ⊥) → has untried g ≡ true → has (put untried f false) g ≡ true
  still_untried g ne h = has_put_other untried f g false ne ∙ h

  pub was_untried : (g : ℕ) → length untried ≡ 20 → 1 ≤ f → f ≤ 20 → has (put untried f false) g ≡ true → has untried g ≡ true
  was_untried g l p q h = ⊎_elim same other (cases_eq g f)
    where
      same : g ≡ f → has untried g ≡ true
      same e = absurd (both_ways (has (put untried f false) g) (rw e (has_put_same untried f false p (omega arith))) h)

      other : (g ≡ f → ⊥) → has untried g ≡ true
      other ne = sym (has_put_other untried f g false ne) ∙ h

-- a placing of an untried candidate
module _ (m : Meaning) (laws : Lawful m) (count : ℕ) (sure : Bool) (untried : List Bool) (below : List Frame) (o : Open m sure untried below) (f : ℕ) (member : has untried f ≡ true) where
  place_free : has (unplaced m.flows (placed below)) f ≡ true
  place_free = o.level.free f member

  place_flow : (is_flow m.flows f ≡ true) × (not (among f (placed below)) ≡ true)
  place_flow = and_parts (is_flow m.flows f) (not (among f (placed below))) (sym (has_unplaced m.flows laws.few_flows (placed below) f) ∙ place_free)

  place_level : Level m (put untried f false) below
  place_level =
      let r = flow_range m.flows f place_flow.0 in
      let s = r.1 in
      let l = laws.few_flows in
      record {
        sized = put_length untried f false ∙ o.level.sized;
        free = λ g h. o.level.free g (was_untried untried f g o.level.sized r.0 (omega arith) h);
      }

  abbrev filled_with : Frame
  filled_with = record { flow = f; untried = put untried f false }

  place_filled : Filled m (filled_with ∷ below)
  place_filled = (place_level, place_free, o.filled)

  -- what leads to an order that passes leads there by f or by another
  place_left : Hope m [] → Hope m (f ∷ placed below) ⊎ Left m (filled_with ∷ below)
  place_left h =
      ⊎_elim
      (λ (l : Leads m untried below). ⊎_elim (λ (e : l.0 ≡ f). inl (subst (λ (g : ℕ). Hope m (g ∷ placed below)) e l.2)) (λ (ne : l.0 ≡ f → ⊥). inr (inl (l.0, still_untried untried f l.0 ne l.1, l.2))) (cases_eq l.0 f))
      (λ (l : Left m below). inr (inr l)) (o.left h)

  abbrev order : List ℕ
  order = f ∷ placed below

  pub order_distinct' : distinct m.flows order ≡ true
  order_distinct' = placed_distinct m laws (filled_with ∷ below) place_filled

  -- on level 1 the order is full
  module _ (full : suc (length below) ≡ m.flows) where
    order_full : length order ≡ m.flows
    order_full = ap suc (placed_length below) ∙ full

    test_stands : Stands m (cond (passes m order) (found count order) (settle count false (put untried f false) below))
    test_stands = each (passes m order) refl
      where
        each : (b : Bool) → passes m order ≡ b → Stands m (cond b (found count order) (settle count false (put untried f false) below))
        each true e =
            record {
              each_once = full_order m.flows laws.few_flows order order_distinct' order_full;
              every_level = order_full;
              bounded = passes_true m order e;
              timely = λ i h. passes_timely m laws order order_distinct' (passes_true m order e) i (let l = order_full in omega arith);
            }
        each false e =
            settle_stands m count false (put untried f false) below
            (record {
              room = o.room;
              level = place_level;
              filled = o.filled;
              ceilings = λ z. absurd (both_ways false refl z);
              left = λ h. ⊎_elim (λ (p : Hope m order). absurd (both_ways (passes m order) e (passes_test m order (hope_full m laws order order_full p)))) (λ (l : Left m (filled_with ∷ below)). l) (place_left h);
            })

  -- the level that is entered then
  pub place_opens : (suc (length below) ≡ m.flows → ⊥) → Open m (settled_by_ceiling m sure (unplaced m.flows order)) (candidates m sure (unplaced m.flows order)) (filled_with ∷ below)
  place_opens ne =
      enter_open m laws count sure (filled_with ∷ below) (let r = o.room in omega arith) place_filled
      (λ e. ((o.ceilings e).1 f member, (o.ceilings e).0)) place_left

  enter_next : (suc (length below) ≡ m.flows → ⊥) → Stands m (enter m count sure (filled_with ∷ below))
  enter_next ne =
      enter_stands m laws count sure (filled_with ∷ below) (let r = o.room in omega arith) place_filled
      (λ e. ((o.ceilings e).1 f member, (o.ceilings e).0)) place_left

  pub place_stands : Stands m (place m count sure untried below f)
  unfolding place
  place_stands = each (eqb (suc (length below)) m.flows) refl
    where
      each : (b : Bool) → eqb (suc (length below)) m.flows ≡ b → Stands m (cond b (cond (passes m order) (found count order) (settle count false (put untried f false) below)) (enter m count sure (filled_with ∷ below)))
      each true e = test_stands (eqb-true (suc (length below)) m.flows e)
      each false e = enter_next (eqb-false (suc (length below)) m.flows e)

-- the lowest level, which is entered first
pub start_open : (m : Meaning) → Lawful m → Open m (settled_by_ceiling m true (unplaced m.flows [])) (candidates m true (unplaced m.flows [])) []
start_open m laws = enter_open m laws 0 true [] laws.some_flow tt (λ e. tt) (λ h. inl h)

pub start_stands : (m : Meaning) → Lawful m → Stands m (enter m 0 true [])
start_stands m laws = enter_stands m laws 0 true [] laws.some_flow tt (λ e. tt) (λ h. inl h)

-- the flow placed next is an untried candidate
pub next_untried : (m : Meaning) (untried : List Bool) (below : List Frame) → empty untried ≡ false → has untried (next m untried below) ≡ true
unfolding next
next_untried m untried below e = (chosen (floor_slack m (unplaced m.flows (placed below))) untried e).inside

pub step_stands : (m : Meaning) → Lawful m → (s : State) → Stands m s → Stands m (step m s)
step_stands m laws (going count sure untried below) p =
    place_stands m laws (suc count) sure untried below p.0 (next m untried below) (next_untried m untried below p.1)
step_stands m laws (found count order) p = p
step_stands m laws (nothing count) p = p
