-- The bytes of a plan as they are written, and labels as they are compared. Assumes nothing.
--   levels_length                  how long the levels are
--   fits_.., short_..              bytes that fit a buffer, and bytes that do not
--   order_short                    the plan of an order does not
--   labels_apart, labels_beside    orders of different lengths, and of one length
use Rattle.std.proofs.Common.{◌≡◌, ℕ, zero, suc, ◌+◌, ◌*◌, ◌<◌, ◌≤◌, Bool, false, ◌&&◌, leb, List, [], ◌∷◌, ◌++◌, length, get_or, drop, Ok, Err, Result, sym, refl, ap, ◌∙◌, arith}
use Rattle.std.specs.List.{list_all, zip}
use Rattle.std.specs.Result.{result_unwrap_or}
use Rattle.std.proofs.lemmas.Bool.{and_right, cond-true, cond-false, le-leb, lt-leb}
use Rattle.std.proofs.lemmas.List.{length-append}
use Rattle.chip.specs.declared.refusal.Refusal.{Refusal}
use Rattle.chip.specs.declared.refusal.Refusal.TheVariants.{ShortBuffer}
use Rattle.rule.specs.Meaning.{Meaning}
use Rattle.rule.specs.Questions.{asked_label}
use Rattle.search.specs.Plans.{level_bytes, tail_bytes, fit_reply, fit_after, levels_told, same_label, same_labels}

module _ (m : Meaning) (order bounds : List ℕ) where
  -- each level has ten bytes
  pub levels_length : (k : ℕ) → length (levels_told m order bounds k) ≡ 10 * k
  levels_length zero = refl
  levels_length (suc k) =
      let l = levels_length k in
      let a = length-append (levels_told m order bounds k) (level_bytes (suc k) (result_unwrap_or (asked_label m (get_or order k 0)) 0) (get_or bounds k 0)) in
      omega arith

-- bytes that fit a buffer, and bytes that do not
module _ (bytes buffer : List ℕ) (n : ℕ) (e : length bytes ≡ n) where
  pub fits_reply : n ≤ length buffer → ◌≡◌ {A = Result ℕ Refusal} (Ok n) (fit_reply bytes (length buffer))
  fits_reply h = ap Ok (sym e) ∙ sym (cond-true (leb (length bytes) (length buffer)) (Ok (length bytes)) (Err ShortBuffer) (le-leb (length bytes) (length buffer) (omega arith)))

  pub fits_after : (after : List ℕ) → n ≤ length buffer → after ≡ bytes ++ drop n buffer → after ≡ fit_after bytes buffer
  fits_after after h a =
      a ∙ ap (λ (k : ℕ). bytes ++ drop k buffer) (sym e)
      ∙ sym (cond-true (leb (length bytes) (length buffer)) (bytes ++ drop (length bytes) buffer) buffer (le-leb (length bytes) (length buffer) (omega arith)))

  pub short_reply : length buffer < n → ◌≡◌ {A = Result ℕ Refusal} (Err ShortBuffer) (fit_reply bytes (length buffer))
  short_reply h = sym (cond-false (leb (length bytes) (length buffer)) (Ok (length bytes)) (Err ShortBuffer) (lt-leb (length bytes) (length buffer) (omega arith)))

  pub short_after : length buffer < n → buffer ≡ fit_after bytes buffer
  short_after h = sym (cond-false (leb (length bytes) (length buffer)) (bytes ++ drop (length bytes) buffer) buffer (lt-leb (length bytes) (length buffer) (omega arith)))

-- the plan of an order
module _ (m : Meaning) (order bounds : List ℕ) (count : ℕ) (buffer : List ℕ) where
  abbrev order_bytes : List ℕ
  order_bytes = levels_told m order bounds (length order) ++ tail_bytes count

  pub order_short : length buffer < 10 * length order + 14 → (◌≡◌ {A = Result ℕ Refusal} (Err ShortBuffer) (fit_reply order_bytes (length buffer))) × (buffer ≡ fit_after order_bytes buffer)
  order_short h =
      let l : length order_bytes ≡ 10 * length order + 14 =
      let a = length-append (levels_told m order bounds (length order)) (tail_bytes count) in let b = levels_length m order bounds (length order) in omega arith in
      (short_reply order_bytes buffer (10 * length order + 14) l h, short_after order_bytes buffer (10 * length order + 14) l h)

module _ (m o : Meaning) where
  -- orders of different lengths
  pub labels_apart : (xs ys : List ℕ) → (length xs ≡ length ys → ⊥) → false ≡ same_labels m xs o ys
  labels_apart [] [] ne = absurd (ne refl)
  labels_apart [] (y ∷ ys) ne = refl
  labels_apart (x ∷ xs) [] ne = refl
  labels_apart (x ∷ xs) (y ∷ ys) ne =
      sym (and_right (same_label (asked_label m x) (asked_label o y)) (same_labels m xs o ys) (sym (labels_apart xs ys (λ e. ne (ap suc e)))))

  -- orders of one length, side by side
  pub labels_beside : (xs ys : List ℕ) → length xs ≡ length ys → list_all (λ p. same_label (asked_label m p.0) (asked_label o p.1)) (zip xs ys) ≡ same_labels m xs o ys
  labels_beside [] [] e = refl
  labels_beside [] (y ∷ ys) e = absurd (omega arith)
  labels_beside (x ∷ xs) [] e = absurd (omega arith)
  labels_beside (x ∷ xs) (y ∷ ys) e = ap (λ (b : Bool). same_label (asked_label m x) (asked_label o y) && b) (labels_beside xs ys (omega arith))
