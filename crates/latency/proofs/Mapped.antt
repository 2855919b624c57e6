-- An array that is another with each element mapped by a closure. Assumes nothing.
use Rattle.std.proofs.Common.{◌≡◌, ℕ, zero, suc, ◌+◌, ◌<◌, ◌≤◌, List, map, length, Option, refl, ap, sym, ◌∙◌, subst, inl, inr, arith}
use Rattle.std.proofs.lemmas.Bool.{cases_eq}
use Rattle.std.proofs.lemmas.List.{same_lists, length-map, get_or-map}
use Rattle.std.specs.Array.{IsElementAt, MapsFrom, IsMapOf}
use Rattle.std.specs.Fn.{Called}
use Rattle.std.specs.Iterator.{CallableAtEachTurn}
use Rattle.std.proofs.lemmas.Fn.{serves_by}
use denote.Param.Members.{Mut}

module _ {F A B : Type 0} (g : Mut F (A × Unit {0}) B) (f : F) (P : A → B → Type 0) (calls : (x : A) (y : B) (q : F) → Called g f (x, tt) y q → (q ≡ f) × P x y) where
  maps_at : (xs : List A) (ys : List B) (i n : ℕ) → MapsFrom g f xs ys i n → (j : ℕ) → i ≤ j → j < i + n → (x : A) × (y : B) × IsElementAt xs j x × IsElementAt ys j y × P x y
  maps_at xs ys i zero m j from below = absurd (omega arith)
  maps_at xs ys i (suc n) (q, x, y, at_x, at_y, call, rest) j from below =
      let made = calls x y q call in
      elim (cases_eq j i) [
        | inl here ↦ subst (λ k. (x : A) × (y : B) × IsElementAt xs k x × IsElementAt ys k y × P x y) (sym here) (x, y, at_x, at_y, made.1)
        | inr later ↦ maps_at xs ys (i + 1) n (subst (λ p. MapsFrom g p xs ys (i + 1) n) made.0 rest) j (omega arith) (omega arith)
      ]

  -- what a call gives of an element stands at its place
  pub mapped_at : (xs : List A) (ys : List B) (n : ℕ) → IsMapOf g f xs ys n → (j : ℕ) → j < n → (x : A) × (y : B) × IsElementAt xs j x × IsElementAt ys j y × P x y
  mapped_at xs ys n m j below = maps_at xs ys 0 n m.each j (omega arith) (omega arith)

-- where calls keep what p and r tell, the arrays tell the same
pub mapped_same : {F A B C : Type 0} (g : Mut F (A × Unit {0}) B) (f : F) (r : A → C) (p : B → C) → ((x : A) (y : B) (q : F) → Called g f (x, tt) y q → (q ≡ f) × (p y ≡ r x)) → (xs : List A) (ys : List B) (n : ℕ) → IsMapOf g f xs ys n → length xs ≡ n → map p ys ≡ map r xs
mapped_same g f r p calls xs ys n m long =
    same_lists (map p ys) (map r xs) (simp length-map (m.long ∙ sym long)) (λ k d inside.
    let below : k < n = omega (arith, length-map ys p, m.long) in
    let (x, y, at_x, at_y, told) = mapped_at g f (λ x y. p y ≡ r x) calls xs ys n m k below in
    get_or-map p ys k y d (omega (arith, m.long)) ∙ ap p (at_y.1 y) ∙ told ∙ ap r (sym (at_x.1 x)) ∙ sym (get_or-map r xs k x d (omega (arith, long))))

-- a closure that calls leave as it was may be called at each turn if it may be called once
pub serves_always : {S A F : Type 0} (steps : S → Option A → S → Type 0) (R : F → A → F → Type 0) (Q : F → A → Type 0) (s : S) (f : F) → ((x : A) (q : F) → R f x q → q ≡ f) → ((x : A) → Q f x) → CallableAtEachTurn steps R Q s f
serves_always steps R Q s f stays may =
    serves_by R (λ _ q. q ≡ f) (λ xs q x w j r. stays x w (subst (λ k. R k x w) j r)) steps Q s f refl (λ xs t q x u y turn j. subst (λ k. Q k x) (sym j) (may x))
