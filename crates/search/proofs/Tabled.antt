-- The tables of a walk: what the entries of a level say. Assumes nothing.
--   mask_at                   the candidates of the level to be filled
--   put_untried, put_slacks   the tables after a placing
--   back-, end-, stay_stands  a walk that backs up, ends, or stays
use Rattle.std.proofs.Common.{◌≡◌, ℕ, ◌+◌, ◌-◌, ◌<◌, ◌≤◌, Bool, true, false, List, [], ◌∷◌, map, length, get_or, take, drop, sym, refl, ap, ◌∙◌, arith}
use lib.ListN as ListN
use Rattle.std.proofs.Math.Seq.{map-set_same}
use Rattle.std.proofs.lemmas.Bool.{both_ways}
use Rattle.std.proofs.lemmas.List.{get_or-map, map-set, drop_all, drop_more, length-take-le, length-map}
use Rattle.rule.specs.FlowSets.{marks_of, put, empty}
use Rattle.search.specs.declared.tables.Walk.{Walk}
use Rattle.search.specs.declared.tables.Stage.{Stage}
use Rattle.search.specs.declared.tables.Stage.TheVariants.{Open, Order, NoOrder}
use Rattle.search.specs.declared.candidates.Candidates.{Candidates}
use Rattle.walk.specs.Walk.{Frame, going, nothing, settle}
use Rattle.search.specs.Tables.{masks, slacks, frames, below_of, untried_of, moving, standing_by, standing, spent_by, spent}

module _ (w : Walk) (d : Candidates) where
  abbrev at : Candidates
  at = get_or w.candidates (w.level - 1) d

  inside : w.level - 1 < length w.candidates
  inside = let a = w.ranged in let b = w.sized in omega arith

  -- the candidates of the level to be filled
  pub mask_at : marks_of at.set ≡ untried_of w
  mask_at = sym (get_or-map (λ (c : Candidates). marks_of c.set) w.candidates (w.level - 1) d [] inside)

  module _ (y : Candidates) where
    -- one candidate fewer on the level
    pub put_untried : (f : ℕ) → marks_of y.set ≡ put (marks_of at.set) f false → map (λ (c : Candidates). marks_of c.set) (ListN.set w.candidates (w.level - 1) y) ≡ ListN.set (masks w) (w.level - 1) (put (untried_of w) f false)
    put_untried f e =
        map-set (λ (c : Candidates). marks_of c.set) w.candidates (w.level - 1) y
        ∙ ap (ListN.set (masks w) (w.level - 1)) (e ∙ ap (λ (x : List Bool). put x f false) mask_at)

    -- the times stay
    pub put_slacks : y.slack ≡ at.slack → map (λ (c : Candidates). c.slack) (ListN.set w.candidates (w.level - 1) y) ≡ slacks w
    put_slacks e = map-set_same (λ (c : Candidates). c.slack) w.candidates (w.level - 1) y d e

settle_stays : (count : ℕ) (sure : Bool) (untried : List Bool) (below : List Frame) → empty untried ≡ false → settle count sure untried below ≡ going count sure untried below
settle_stays count sure untried [] e = rw e refl
settle_stays count sure untried (f ∷ fs) e = rw e refl

-- the parts of a level table from an entry on
module _ (count : ℕ) (sure : Bool) (untried : List Bool) (placed : List ℕ) (masks : List (List Bool)) (spent : empty untried ≡ true) where
  pub back_moving : (k : ℕ) → k < length placed → k < length masks → settle count sure untried (frames (drop k placed) (drop k masks)) ≡ settle count false (get_or masks (k + 1 - 1) []) (frames (drop (k + 1) placed) (drop (k + 1) masks))
  back_moving k p q =
      let e : k + 1 - 1 ≡ k = omega arith in
      rw (e, drop_more placed k 0 p, drop_more masks k [] q, spent) refl

  pub end_moving : (k : ℕ) → length placed ≤ k → settle count sure untried (frames (drop k placed) (drop k masks)) ≡ nothing count
  end_moving k l = rw (drop_all k placed l, spent) refl

-- a walk that is to back up goes on, with no candidate left
pub spent_open : (s : Stage) (w : Walk) → spent_by s w ≡ true → s ≡ Open
spent_open Open w e = refl
spent_open (Order bounds) w e = absurd (both_ways false refl e)
spent_open NoOrder w e = absurd (both_ways false refl e)

module _ (w : Walk) where
  spent_empty : spent w ≡ true → empty (untried_of w) ≡ true
  spent_empty e = sym (ap (λ (s : Stage). spent_by s w) (spent_open w.stage w e)) ∙ e

  -- a walk that need not back up stands where it moves to
  pub stay_stands : w.stage ≡ Open → spent w ≡ false → standing w ≡ moving w
  stay_stands o e =
      ap (λ (s : Stage). standing_by s w) o
      ∙ sym (settle_stays w.count w.sure (untried_of w) (below_of w w.level) (sym (ap (λ (s : Stage). spent_by s w) o) ∙ e))

  module _ (e : spent w ≡ true) where
    masks_length : length (masks w) ≡ 20
    masks_length = length-map w.candidates (λ (c : Candidates). marks_of c.set) ∙ w.sized.1

    taken_length : length (take w.flows w.placed) ≡ w.flows
    taken_length = length-take-le w.flows w.placed (let a = w.sized in let b = w.ranged in omega arith)

    -- backing up one level
    pub back_stands : (w.level ≡ w.flows → ⊥) → settle w.count false (get_or (masks w) (w.level + 1 - 1) []) (below_of w (w.level + 1)) ≡ moving w
    back_stands ne =
        sym
        (back_moving w.count w.sure (untried_of w) (take w.flows w.placed) (masks w) (spent_empty e) w.level
        (let a = w.ranged in let t = taken_length in omega arith) (let a = w.ranged in let t = masks_length in omega arith))

-- an open walk has not ended with an order
pub order_open : (bounds : List ℕ) → ◌≡◌ {A = Stage} Open (Order bounds) → ⊥
order_open bounds e = let z : ◌≡◌ {A = ℕ} 0 1 = cc in omega arith
