-- Orders that pass and end in the flows placed so far, and how a level keeps one. Assumes nothing.
--   Hope            some order that passes ends in given flows
--   Ceilings        each of the flows placed has a ceiling under those above it
--   hope_ceiling    at a level settled by ceiling its one candidate keeps the hope
--   hope_floor      at any other level some flow with a floor does
--   hope_full       with every level filled the order itself passes
use Rattle.std.proofs.Common.{◌≡◌, ℕ, ◌<◌, Bool, true, not, List, [], ◌∷◌, ◌++◌, length, is_some, sym, ap, ◌∙◌, subst, arith}
use Rattle.std.proofs.lemmas.Bool.Decides.{nat_tests}
use Rattle.std.proofs.lemmas.Bool.{and_parts, and_from, not-true}
use Rattle.std.proofs.lemmas.List.{append_assoc, append-nil, length-append, nil_from_length}
use Rattle.rule.specs.Lists.{is_flow, among, distinct, proper, Order, marks, has}
use Rattle.rule.specs.Laws.{Lawful}
use Rattle.rule.specs.Meaning.{Meaning, Passes, PassesUnder}
use Rattle.rule.proofs.Members.{among_times, times_append}
use Rattle.walk.specs.Walk.{unplaced, floor_at, ceiling_at, with_floor}
use Rattle.walk.proofs.Chosen.{has_keep}
use Rattle.walk.proofs.Orders.{distinct_fewer, order_distinct, order_length, distinct_fits, has_unplaced, set_above, split, last}
use Rattle.walk.proofs.Passing.{some, later_some, passes_parts, passes_join, passes_struck}

-- some order that passes ends in the flows of a list
pub record Hope (m : Meaning) (ps : List ℕ) : Type 0 where
  pub above : List ℕ
  pub order : Order m.flows (above ++ ps)
  pub bounded : Passes m (above ++ ps)

-- each flow of a list has a ceiling under the flows that stand neither there nor below
abbrev pub Ceilings : Meaning → List ℕ → Type 0
Ceilings m [] = Unit {0}
Ceilings m (p ∷ ps) = (is_some (ceiling_at m (unplaced m.flows ps) p) ≡ true) × Ceilings m ps

-- each flow of an order may be asked under those above it
pub order_proper : (n : ℕ) (above : List ℕ) (p : ℕ) (ps : List ℕ) → Order n (above ++ p ∷ ps) → proper n p above ≡ true
order_proper n above p ps o =
    distinct_fewer n (above ++ p ∷ ps) (p ∷ above) (order_distinct n (above ++ p ∷ ps) o) (λ g. let t = times_append g above (p ∷ ps) in omega arith)

module _ (m : Meaning) (laws : Lawful m) where
  -- flows with ceilings get bounds, one after another downward, under flows that pass
  lowered : (ps above : List ℕ) → Ceilings m ps → Order m.flows (above ++ ps) → Passes m above → PassesUnder m above ps
  lowered [] above c o p = tt
  lowered (q ∷ ps) above c o p =
      (here, lowered ps (above ++ q ∷ []) c.1 (subst (Order m.flows) (sym (append_assoc above (q ∷ []) ps)) o) (passes_join m [] above (q ∷ []) p (here, tt)))
    where
      here : is_some (m.bound q above) ≡ true
      here =
          let r = some (ceiling_at m (unplaced m.flows ps) q) c.0 in
          later_some (m.bound q above) r.0
          (laws.ceiled q above r.0 (order_proper m.flows above q ps o) p (ap (m.ceiling q) (set_above m.flows laws.few_flows above q ps o) ∙ r.1))

  module _ (g : ℕ) (ps : List ℕ) where
    -- the same flows with g moved down to the placed ones
    moved_order : (front back : List ℕ) → Order m.flows ((front ++ g ∷ back) ++ ps) → Order m.flows ((front ++ back) ++ g ∷ ps)
    moved_order front back o x =
        let a = o x in
        let b = times_append x (front ++ g ∷ back) ps in
        let c = times_append x front (g ∷ back) in
        let d = times_append x (front ++ back) (g ∷ ps) in
        let e = times_append x front back in
        omega arith

    moved_passes : (front back : List ℕ) → distinct m.flows (front ++ g ∷ back) ≡ true → Passes m (front ++ g ∷ back) → Passes m (front ++ back)
    moved_passes front back d p =
        let q = passes_parts m [] front (g ∷ back) p in
        passes_join m [] front back q.0
        (subst (λ (zs : List ℕ). PassesUnder m zs back) (append-nil front) (passes_struck m laws front g [] back d q.1.1))

    moved : Ceilings m (g ∷ ps) → (front back : List ℕ) → Order m.flows ((front ++ g ∷ back) ++ ps) → Passes m ((front ++ g ∷ back) ++ ps) → Hope m (g ∷ ps)
    moved c front back o p =
        let d = distinct_fewer m.flows ((front ++ g ∷ back) ++ ps) (front ++ g ∷ back) (order_distinct m.flows ((front ++ g ∷ back) ++ ps) o) (λ x. let t = times_append x (front ++ g ∷ back) ps in omega arith) in
        let q = moved_passes front back d (passes_parts m [] (front ++ g ∷ back) ps p).0 in
        let r = moved_order front back o in
        record {
          above = front ++ back;
          order = r;
          bounded = passes_join m [] (front ++ back) (g ∷ ps) q (lowered (g ∷ ps) (front ++ back) c r q);
        }

    -- g stands above in every order that ends in flows without it
    inside : (h : Hope m ps) → has (unplaced m.flows ps) g ≡ true → among g h.above ≡ true
    inside h free =
        let f = and_parts (is_flow m.flows g) (not (among g ps)) (sym (has_unplaced m.flows laws.few_flows ps g) ∙ free) in
        let o = h.order g in
        let t = times_append g h.above ps in
        let u = among_times g ps in
        let v = not-true (among g ps) f.1 in
        let w = f.0 in
        among_times g h.above ∙ grind (arith, nat_tests)

    moved_at : Ceilings m (g ∷ ps) → (above front back : List ℕ) → above ≡ front ++ g ∷ back → Order m.flows (above ++ ps) → Passes m (above ++ ps) → Hope m (g ∷ ps)
    moved_at c above front back e o p =
        moved c front back (subst (λ (zs : List ℕ). Order m.flows (zs ++ ps)) e o) (subst (λ (zs : List ℕ). Passes m (zs ++ ps)) e p)

    -- a candidate by ceiling keeps the hope
    pub hope_ceiling : Ceilings m (g ∷ ps) → has (unplaced m.flows ps) g ≡ true → Hope m ps → Hope m (g ∷ ps)
    hope_ceiling c free h = let s = split g h.above (inside h free) in moved_at c h.above s.0 s.1 s.2 h.order h.bounded

  -- a flow with a floor that keeps the hope
  abbrev Floored : List ℕ → Type 0
  Floored ps = (g : ℕ) × (has (with_floor m (unplaced m.flows ps)) g ≡ true) × Hope m (g ∷ ps)

  module _ (ps : List ℕ) where
    lowest : (above : List ℕ) (g : ℕ) → Order m.flows (above ++ g ∷ ps) → Passes m (above ++ g ∷ ps) → Floored ps
    lowest above g o p =
        (g, has_keep (λ f. is_some (floor_at m (unplaced m.flows ps) f)) (unplaced m.flows ps) g ∙ and_from (has (unplaced m.flows ps) g) (is_some (floor_at m (unplaced m.flows ps) g)) free floor, record { above = above; order = o; bounded = p })
      where
        free : has (unplaced m.flows ps) g ≡ true
        free =
            let t = o g in
            let u = times_append g above (g ∷ ps) in
            let v = among_times g ps in
            has_unplaced m.flows laws.few_flows ps g ∙ grind (arith, nat_tests)

        floor : is_some (floor_at m (unplaced m.flows ps) g) ≡ true
        floor =
            let r = some (m.bound g above) (passes_parts m [] above (g ∷ ps) p).1.0 in
            ap (λ (s : List Bool). is_some (m.floor g s)) (sym (set_above m.flows laws.few_flows above g ps o))
            ∙ later_some (m.floor g (marks above)) r.0 (laws.floored g above r.0 (order_proper m.flows above g ps o) r.1)

    floored_by : (above : List ℕ) → length ps < m.flows → Order m.flows (above ++ ps) → Passes m (above ++ ps) → Floored ps
    floored_by [] l o p = let t = order_length m.flows laws.few_flows ps o in absurd (omega arith)
    floored_by (x ∷ xs) l o p =
        let s = last x xs in
        let e : (x ∷ xs) ++ ps ≡ s.0 ++ s.1 ∷ ps = ap (λ (zs : List ℕ). zs ++ ps) s.2 ∙ append_assoc s.0 (s.1 ∷ []) ps in
        lowest s.0 s.1 (subst (Order m.flows) e o) (subst (Passes m) e p)

    -- with a level to fill, some flow with a floor keeps the hope
    pub hope_floor : length ps < m.flows → Hope m ps → (g : ℕ) × (has (with_floor m (unplaced m.flows ps)) g ≡ true) × Hope m (g ∷ ps)
    hope_floor l h = floored_by h.above l h.order h.bounded

    -- with every level filled, the order passes
    pub hope_full : length ps ≡ m.flows → Hope m ps → Passes m ps
    hope_full l h =
        let d = distinct_fits m.flows laws.few_flows (h.above ++ ps) (order_distinct m.flows (h.above ++ ps) h.order) in
        let a = length-append h.above ps in
        let e : h.above ≡ [] = nil_from_length h.above (omega arith) in
        subst (λ (zs : List ℕ). Passes m (zs ++ ps)) e h.bounded
