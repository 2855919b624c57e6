-- Filling a table from another, place by place. Assumes nothing.
use Rattle.std.proofs.Common.{◌≡◌, ℕ, ◌+◌, ◌<◌, List, [], ◌∷◌, ◌++◌, map, length, get_or, take, set, sym, ap, ◌∙◌, arith}
use Rattle.std.proofs.lemmas.List.{map-set, take_more, take_more_set, get_or-map, length-map, take_all}

module _ {X Y Z : Type 0} (p : X → Z) (q : Y → Z) where
  pub fill_first : (z : Z) (ys : List Y) (y : Y) → 0 < length ys → z ≡ q (get_or ys 0 y) → z ∷ [] ≡ take 1 (map q ys)
  fill_first z [] y h e = absurd (omega arith)
  fill_first z (x ∷ ys) y h e = ap (λ w. w ∷ []) e

  pub fill_more : (xs : List X) (ys : List Y) (i : ℕ) (x : X) (y : Y) → i < length xs → i < length ys → take i (map p xs) ≡ take i (map q ys) → p x ≡ q (get_or ys i y) → take (i + 1) (map p (set xs i x)) ≡ take (i + 1) (map q ys)
  fill_more xs ys i x y h k e here =
      ap (take (i + 1)) (map-set p xs i x)
      ∙ take_more_set (map p xs) i (p x) (simp length-map h)
      ∙ ap (λ zs. zs ++ p x ∷ []) e
      ∙ ap (λ z. take i (map q ys) ++ z ∷ []) (here ∙ sym (get_or-map q ys i y (q y) k))
      ∙ sym (take_more (map q ys) i (q y) (simp length-map k))

  pub fill_all : (xs : List X) (ys : List Y) (n : ℕ) → length xs ≡ n → length ys ≡ n → take n (map p xs) ≡ take n (map q ys) → map p xs ≡ map q ys
  fill_all xs ys n h k e = sym (take_all n (map p xs) (simp length-map (omega arith))) ∙ e ∙ take_all n (map q ys) (simp length-map (omega arith))
