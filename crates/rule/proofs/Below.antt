-- What a layer learns of the rule below from the bounds of a list. Assumes nothing.
--   answered              a reply that is no refusal is the answer to a proper question
--   Below                 the bounds below of a list without repeats, as told: so many, padded with 0 to 20
--   below_at, -stops      the bound of each flow that one is told of, and none for the flow after
--   deadline_told         the deadline of each flow of the list
--   BoundsBelow           the same bounds as a list, without the padding
--   bounds_at, -stop      the bound of each flow, and none for the flow after
--   Beside                a loop over the list and these bounds side by side: the flow and the bound it has come to
use Rattle.std.proofs.Common.{◌≡◌, ℕ, ◌-◌, ◌<◌, ◌≤◌, Bool, true, false, List, [], length, get_or, take, replicate, Some, None, Ok, Result, sym, refl, ap, ◌∙◌, arith}
use Rattle.std.proofs.Math.Seq.{take-append_seam}
use Rattle.std.proofs.lemmas.List.{get_or_append_left}
use Rattle.chip.specs.declared.refusal.Refusal.{Refusal}
use Rattle.rule.specs.declared.bounds.Bounds.{Bounds}
use Rattle.rule.specs.Lists.{is_flow, distinct}
use Rattle.rule.specs.Laws.{Lawful}
use Rattle.rule.specs.Meaning.{Meaning, answer, leading}
use Rattle.rule.specs.Questions.{table, asked_bounds, asked_deadline}
use Rattle.rule.proofs.Distinct.{proper_taken, distinct_parts}
use Rattle.rule.proofs.Told.{Sound, replied, list_short, leading_at, leading_stops, leading_most}

-- a reply that is no refusal is the answer to a proper question
pub answered : {X : Type 0} (b : Bool) (x y : X) → ◌≡◌ {A = Result X Refusal} (Ok y) (answer b x) → (b ≡ true) × (y ≡ x)
answered true x y e = (refl, cc)
answered false x y e = let z : ◌≡◌ {A = ℕ} 0 1 = cc in absurd (omega arith)

-- the bounds below of a list without repeats
pub record Below (m : Meaning) (list : List ℕ) (below : Bounds) : Type 0 where
  pub asked : Sound m list
  pub held : below ≡ table (leading m [] list)

pub below : {m : Meaning} (list : List ℕ) (b : Bounds) → Lawful m → ◌≡◌ {A = Result Bounds Refusal} (Ok b) (asked_bounds m list) → Below m list b
below {m} list b laws e =
    let a = answered (distinct m.flows list) (table (leading m [] list)) b e in
    record { asked = record { laws = laws; once = a.0 }; held = a.1 }

module _ (m : Meaning) (list : List ℕ) (b : Bounds) (s : Below m list b) where
  below_count : b.count ≡ length (leading m [] list)
  below_count = ap (λ (x : Bounds). x.count) s.held

  -- no more bounds than flows, and at most 20
  pub below_most : (b.count ≤ length list) × (b.count ≤ 20)
  below_most =
      let c = below_count in
      let l = leading_most m [] list in
      let t = list_short m list s.asked in
      (omega arith, omega arith)

  -- each number of the list is a flow
  pub flow_at : (i : ℕ) → i < length list → is_flow m.flows (get_or list i 0) ≡ true
  flow_at i h = (distinct_parts m.flows (get_or list i 0) (take i list) (proper_taken m.flows list i h s.asked.once)).0

  -- the bound of a flow that one is told of
  pub below_at : (i : ℕ) → i < b.count → m.bound (get_or list i 0) (take i list) ≡ Some (get_or b.ticks i 0)
  below_at i h =
      let l : i < length (leading m [] list) = omega (arith, below_count) in
      leading_at m list i l
      ∙ ap Some (sym (ap (λ (x : Bounds). get_or x.ticks i 0) s.held
      ∙ get_or_append_left (leading m [] list) (replicate (20 - length (leading m [] list)) 0) 0 i l))

  -- the flow after the last of them has none
  pub below_stops : (i : ℕ) → i ≡ b.count → i < length list → m.bound (get_or list i 0) (take i list) ≡ None
  below_stops i e h = leading_stops m list i (e ∙ below_count) h

  -- the deadline of each flow of the list is told
  pub deadline_told : (i : ℕ) (r : Result ℕ Refusal) → i < length list → r ≡ asked_deadline m (get_or list i 0) → r ≡ Ok (m.deadline (get_or list i 0))
  deadline_told i r h e = e ∙ replied (is_flow m.flows (get_or list i 0)) (m.deadline (get_or list i 0)) (flow_at i h)

-- the bounds below of a list without repeats, as a list without the padding
pub record BoundsBelow (m : Meaning) (list bounds : List ℕ) : Type 0 where
  pub asked : Sound m list
  pub held : bounds ≡ leading m [] list

-- the padding taken off, and put on again
pub unpadded : {m : Meaning} (list : List ℕ) (b : Bounds) (bounds : List ℕ) → Below m list b → bounds ≡ take b.count b.ticks → BoundsBelow m list bounds
unpadded {m} list b bounds s t =
    record {
      asked = s.asked;
      held = t ∙ ap (λ (x : Bounds). take x.count x.ticks) s.held ∙ take-append_seam (leading m [] list) (replicate (20 - length (leading m [] list)) 0);
    }

pub padded : {m : Meaning} (list bounds : List ℕ) → BoundsBelow m list bounds → Below m list (table bounds)
padded list bounds s = record { asked = s.asked; held = ap table s.held }

pub bounds_below : {m : Meaning} (list : List ℕ) (b : Bounds) (bounds : List ℕ) → Lawful m → ◌≡◌ {A = Result Bounds Refusal} (Ok b) (asked_bounds m list) → bounds ≡ take b.count b.ticks → BoundsBelow m list bounds
bounds_below list b bounds laws e t = unpadded list b bounds (below list b laws e) t

-- a loop over a list and its bounds side by side has come to number i of each
pub record Beside (list bounds : List ℕ) (i f r : ℕ) : Type 0 where
  pub more : i < length bounds
  pub flow : f ≡ get_or list i 0
  pub bound : r ≡ get_or bounds i 0

-- it has come to the same bound in their table
pub beside_told : (list bounds : List ℕ) (i f r : ℕ) → Beside list bounds i f r → r ≡ get_or (table bounds).ticks i 0
beside_told list bounds i f r at = at.bound ∙ sym (get_or_append_left bounds (replicate (20 - length bounds) 0) 0 i at.more)

module _ (m : Meaning) (list bounds : List ℕ) (s : BoundsBelow m list bounds) where
  -- no more bounds than flows, and at most 20
  pub bounds_most : (length bounds ≤ length list) × (length bounds ≤ 20)
  bounds_most = below_most m list (table bounds) (padded list bounds s)

  -- each number of the list is a flow
  pub bounds_flow : (i : ℕ) → i < length list → is_flow m.flows (get_or list i 0) ≡ true
  bounds_flow i h = flow_at m list (table bounds) (padded list bounds s) i h

  -- the bound of a flow that one is told of
  pub bounds_at : (i f r : ℕ) → Beside list bounds i f r → m.bound (get_or list i 0) (take i list) ≡ Some r
  bounds_at i f r at = below_at m list (table bounds) (padded list bounds s) i at.more ∙ ap Some (sym (beside_told list bounds i f r at))

  -- the flow after the last of them has none
  pub bounds_stop : (i : ℕ) → i ≡ length bounds → i < length list → m.bound (get_or list i 0) (take i list) ≡ None
  bounds_stop i e h = below_stops m list (table bounds) (padded list bounds s) i e h
