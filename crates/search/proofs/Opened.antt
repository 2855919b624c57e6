-- The tables of a walk after a level is opened, and after an order is tested. Assumes nothing.
--   free_told, free_flows      the unplaced flows
--   opened_*, entered_*        the tables of a level that is opened
--   tested_true, tested_false    an order that passes, and one that does not
use Rattle.std.proofs.Common.{◌≡◌, ℕ, ◌+◌, ◌-◌, ◌≤◌, Bool, true, false, not, List, [], map, length, get_or, take, drop, is_some, Some, None, Ok, Option, Result, sym, refl, ap, ◌∙◌, subst, arith}
use lib.ListN as ListN
use Rattle.std.proofs.lemmas.Bool.{and_parts, eq-eqb, ne_eqb}
use Rattle.std.proofs.lemmas.List.{get_or-set_same, get_or-set_other, map-set, drop-set-lt, length-map, length-take-le, drop-take}
use Rattle.chip.specs.declared.refusal.Refusal.{Refusal}
use Rattle.rule.specs.declared.bounds.Bounds.{Bounds}
use Rattle.rule.specs.declared.flow_set.FlowSet.{FlowSet}
use Rattle.rule.specs.FlowSets.{marks_of, put, first_flows, less}
use Rattle.rule.specs.Lists.{is_flow, among, distinct, has, marks}
use Rattle.rule.specs.Meaning.{Meaning, leading}
use Rattle.rule.specs.Questions.{asked_floor, asked_bounds, table}
use Rattle.rule.specs.Laws.{Lawful}
use Rattle.rule.proofs.FlowSets.{marks_of_length}
use Rattle.rule.proofs.Told.{replied}
use Rattle.search.specs.Candidates.{time_told, Gathered}
use Rattle.search.proofs.Heard.{floors_kept, floor_row, opened_by_floor, opened_by_ceiling, settled_some, settled_none, settled_sure}
use Rattle.search.specs.declared.candidates.Candidates.{Candidates}
use Rattle.search.specs.declared.tables.Walk.{Walk}
use Rattle.search.specs.declared.tables.Stage.TheVariants.{Order}
use Rattle.walk.specs.Walk.{unplaced, candidates, settled_by_ceiling, passes}
use Rattle.search.specs.Tables.{FlowsOnly, Row, Settled, masks, slacks, filled, free_of, order_of, Passed}
use Rattle.walk.proofs.Orders.{has_unplaced}

-- the flows that are placed on no level below, from a part of the table
pub free_told : (w : Walk) → less (first_flows w.flows) (marks (take (w.flows - w.level) (drop w.level w.placed))) ≡ free_of w
unfolding unplaced
free_told w =
    let a = w.ranged in
    let e : w.level + (w.flows - w.level) ≡ w.flows = omega arith in
    ap (λ (xs : List ℕ). less (first_flows w.flows) (marks xs)) (sym (drop-take w.level (w.flows - w.level) w.placed) ∙ ap (λ (n : ℕ). drop w.level (take n w.placed)) e)

-- the unplaced flows are flows of the rule
pub free_flows : (m : Meaning) (w : Walk) (set : List Bool) → w.flows ≡ m.flows → set ≡ free_of w → FlowsOnly m set
free_flows m w set e s f h =
    ap (λ (n : ℕ). is_flow n f) (sym e)
    ∙ (and_parts (is_flow w.flows f) (not (among f (filled w w.level))) (sym (has_unplaced w.flows w.ranged.2 (filled w w.level) f) ∙ ap (λ (x : List Bool). has x f) (sym s) ∙ h)).0

-- the tables with the candidates c of the level to be filled
module _ (w : Walk) (c : Candidates) where
  abbrev opened : List Candidates
  opened = ListN.set w.candidates (w.level - 1) c

  pub opened_below : drop w.level (map (λ (x : Candidates). marks_of x.set) opened) ≡ drop w.level (masks w)
  opened_below =
      ap (drop w.level) (map-set (λ (x : Candidates). marks_of x.set) w.candidates (w.level - 1) c)
      ∙ drop-set-lt w.level (masks w) (w.level - 1) (marks_of c.set) (let a = w.ranged in omega arith)

  pub opened_rows : (i : ℕ) → w.level ≤ i → get_or (map (λ (x : Candidates). x.slack) opened) i [] ≡ get_or (slacks w) i []
  opened_rows i h =
      ap (λ (xs : List (List ℕ)). get_or xs i []) (map-set (λ (x : Candidates). x.slack) w.candidates (w.level - 1) c)
      ∙ get_or-set_other (slacks w) (w.level - 1) i c.slack [] (λ (e : i ≡ w.level - 1). let a = w.ranged in omega arith)

  pub opened_row : get_or (map (λ (x : Candidates). x.slack) opened) (w.level - 1) [] ≡ c.slack
  opened_row =
      ap (λ (xs : List (List ℕ)). get_or xs (w.level - 1) []) (map-set (λ (x : Candidates). x.slack) w.candidates (w.level - 1) c)
      ∙ get_or-set_same (slacks w) (w.level - 1) c.slack [] (let a = w.ranged in let b = w.sized in let l = length-map w.candidates (λ (x : Candidates). x.slack) in omega arith)

  pub opened_untried : get_or (map (λ (x : Candidates). marks_of x.set) opened) (w.level - 1) [] ≡ marks_of c.set
  opened_untried =
      ap (λ (xs : List (List Bool)). get_or xs (w.level - 1) []) (map-set (λ (x : Candidates). marks_of x.set) w.candidates (w.level - 1) c)
      ∙ get_or-set_same (masks w) (w.level - 1) (marks_of c.set) [] (let a = w.ranged in let b = w.sized in let l = length-map w.candidates (λ (x : Candidates). marks_of x.set) in omega arith)

-- what a rule is heard to say of the unplaced flows
module _ (m : Meaning) (laws : Lawful m) (w : Walk) (e : w.flows ≡ m.flows) (set : FlowSet) (is : marks_of set ≡ free_of w) where
  only : FlowsOnly m (marks_of set)
  only = free_flows m w (marks_of set) e is

  module _ (floors : Candidates) (t : Gathered (time_told m (asked_floor m) (marks_of set)) (marks_of set) floors) where
    pub entered_row : Row m (free_of w) floors.slack
    entered_row = subst (λ (s : List Bool). Row m s floors.slack) is (floor_row m laws (marks_of set) (marks_of_length set) only floors t)

    -- the candidates of a level that is not settled by ceiling
    pub entered_by_floor : (sure : Bool) → Settled m sure (marks_of set) None → marks_of floors.set ≡ candidates m sure (free_of w)
    entered_by_floor sure s =
        t.kept ∙ floors_kept m laws (marks_of set) (marks_of_length set) only ∙ opened_by_floor m sure (marks_of set) (settled_none m sure (marks_of set) (s only))
        ∙ ap (candidates m sure) is

  -- the candidates of one that is
  pub entered_by_ceiling : (sure : Bool) (f : ℕ) (none one : FlowSet) → Settled m sure (marks_of set) (Some f) → marks_of none ≡ marks [] → marks_of one ≡ put (marks_of none) f true → marks_of one ≡ candidates m sure (free_of w)
  entered_by_ceiling sure f none one s n o =
      let q = settled_some m sure (marks_of set) f (s only) in
      opened_by_ceiling m sure (marks_of set) f (marks_of none) (marks_of one) q.0 q.1 n o ∙ ap (candidates m sure) is

  pub entered_sure : (sure : Bool) (r : Option ℕ) → Settled m sure (marks_of set) r → is_some r ≡ settled_by_ceiling m sure (free_of w)
  entered_sure sure r s = settled_sure m sure (marks_of set) r (s only) ∙ ap (settled_by_ceiling m sure) is

-- the order is as long as there are flows
pub order_length : (w : Walk) → length (order_of w) ≡ w.flows
order_length w = length-take-le w.flows w.placed (let a = w.sized in let b = w.ranged in omega arith)

-- a test of the order, which the rule answers so
module _ (m : Meaning) (w : Walk) (answer : Result Bounds Refusal) (e : answer ≡ asked_bounds m (order_of w)) (d : distinct m.flows (order_of w) ≡ true) where
  told : answer ≡ Ok (table (leading m [] (order_of w)))
  told = e ∙ replied (distinct m.flows (order_of w)) (table (leading m [] (order_of w))) d

  -- an order that passes
  pub tested_true : (b : Bounds) (sure : Bool) → answer ≡ Ok b → b.count ≡ w.flows → Passed m w (Order b.ticks) sure (passes m (order_of w))
  unfolding passes
  tested_true b sure o h =
      let q : b ≡ table (leading m [] (order_of w)) = let t = sym o ∙ told in cc in
      subst (Passed m w (Order b.ticks) sure) (sym (eq-eqb (length (leading m [] (order_of w))) (length (order_of w)) (sym (ap (λ (t : Bounds). t.count) q) ∙ h ∙ sym (order_length w))))
      (ap (λ (t : Bounds). Order t.ticks) q)

  -- an order that does not pass
  pub tested_false : ((b : Bounds) → answer ≡ Ok b → b.count ≡ w.flows → ⊥) → Passed m w w.stage false (passes m (order_of w))
  unfolding passes
  tested_false ne =
      subst (Passed m w w.stage false) (sym (ne_eqb (length (leading m [] (order_of w))) (length (order_of w)) (λ q. ne (table (leading m [] (order_of w))) told (q ∙ order_length w))))
      (refl, refl)
