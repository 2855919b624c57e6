-- Binary digits as marks: what the operations on numbers do to them. Assumes nothing.
use Rattle.std.proofs.Common.{◌≡◌, ℕ, zero, suc, ◌+◌, ◌-◌, ◌*◌, ◌/◌, ◌%◌, ◌^◌, ◌<◌, ◌≤◌, min, max, Bool, true, false, not, ◌&&◌, ◌||◌, eqb, ltb, ◌⊎◌, List, [], ◌∷◌, Some, sym, refl, ap, ◌∙◌, inl, inr, ⊎_elim, add-zero, pow-suc, arith, lit≤, pow_mono}
use Rattle.std.proofs.lemmas.Nat.{pow_pos, pow_below, one_shl}
use lib.Bits.{bit_and, bit_or, and_step, or_step, and_le_l, and_self}
use lib.Count.{ones, ones_step, count_trailing_zeros}
use lib.ListN as ListN
use Rattle.std.proofs.lemmas.Bool.Decides.{nat_tests}
use Rattle.std.proofs.lemmas.List.{set_past}
use Rattle.std.proofs.lemmas.Bool.{cases_lt, cond-true, cond-false, cond_both, ltb-true, lt-ltb, le-ltb}
use Rattle.rule.specs.Lists.{has}
use Rattle.rule.specs.FlowSets.{digits, digit_of, put, firsts, both, less, size, empty, members_from, Popped}
use Rattle.rule.proofs.Marks.{cons, firsts_length, firsts_all, either, both_put, either_put, less_put}

module _ (a b : ℕ) where
  and_low : eqb (bit_and a b % 2) 1 ≡ (eqb (a % 2) 1 && eqb (b % 2) 1)
  and_low = let s = and_step a b in let e : bit_and a b % 2 ≡ min (a % 2) (b % 2) = omega arith in rw e (grind (arith, nat_tests))

  and_high : bit_and a b / 2 ≡ bit_and (a / 2) (b / 2)
  and_high = let s = and_step a b in omega arith

pub digits_and : (k a b : ℕ) → digits k (bit_and a b) ≡ both (digits k a) (digits k b)
unfolding digits
digits_and zero a b = refl
digits_and (suc k) a b = cons (and_low a b) (ap (digits k) (and_high a b) ∙ digits_and k (a / 2) (b / 2))

-- taking away what two numbers have in common
module _ (a b : ℕ) where
  less_low : eqb ((a - bit_and a b) % 2) 1 ≡ (eqb (a % 2) 1 && not (eqb (b % 2) 1))
  less_low =
      let s = and_step a b in
      let h = and_le_l (a / 2) (b / 2) in
      let e : (a - bit_and a b) % 2 ≡ a % 2 - min (a % 2) (b % 2) = omega arith in
      rw e (grind (arith, nat_tests))

  less_high : (a - bit_and a b) / 2 ≡ a / 2 - bit_and (a / 2) (b / 2)
  less_high = let s = and_step a b in let h = and_le_l (a / 2) (b / 2) in omega arith

pub digits_less : (k a b : ℕ) → digits k (a - bit_and a b) ≡ less (digits k a) (digits k b)
unfolding digits
digits_less zero a b = refl
digits_less (suc k) a b = cons (less_low a b) (ap (digits k) (less_high a b) ∙ digits_less k (a / 2) (b / 2))

-- how many digits are set
pub digits_size : (k b : ℕ) → b < 2 ^ k → ones b ≡ size (digits k b)
unfolding digits
digits_size zero b h = let e : b ≡ 0 = omega arith in rw e (unfold ones in refl)
digits_size (suc k) b h =
    let p = pow-suc 2 k in
    let n : b / 2 < 2 ^ k = omega arith in
    let s = ones_step b in
    let t = digits_size k (b / 2) n in
    grind (arith, nat_tests)

-- no digit is set in 0 only
pub digits_empty : (k b : ℕ) → b < 2 ^ k → eqb b 0 ≡ empty (digits k b)
unfolding digits
digits_empty zero b h = grind (arith, nat_tests)
digits_empty (suc k) b h =
    let p = pow-suc 2 k in
    let n : b / 2 < 2 ^ k = omega arith in
    let t = digits_empty k (b / 2) n in
    grind (arith, nat_tests)

pub digits_zero : (k : ℕ) → digits k 0 ≡ firsts k 0
unfolding digits
digits_zero zero = refl
digits_zero (suc k) = cons refl (digits_zero k)

-- as many digits as were asked for
pub digits_length : (k b : ℕ) → ListN.length (digits k b) ≡ k
unfolding digits
digits_length zero b = refl
digits_length (suc k) b = ap suc (digits_length k (b / 2))

-- 2 ^ i has one digit
pub digits_pow : (k i : ℕ) → i < k → digits k (2 ^ i) ≡ ListN.set (firsts k 0) i true
unfolding digits
digits_pow zero i h = absurd (omega arith)
digits_pow (suc k) zero h = cons refl (digits_zero k)
digits_pow (suc k) (suc i) h =
    let p = pow-suc 2 i in
    let high : 2 ^ suc i / 2 ≡ 2 ^ i = omega arith in
    let low : 2 ^ suc i % 2 ≡ 0 = omega arith in
    let less : i < k = omega arith in
    cons (ap (λ (x : ℕ). eqb x 1) low) (ap (digits k) high ∙ digits_pow k i less)

-- 2 ^ n - 1 has the first n digits
pub digits_ones : (k n : ℕ) → n ≤ k → digits k (2 ^ n - 1) ≡ firsts k n
unfolding digits
digits_ones k zero h = digits_zero k
digits_ones zero (suc n) h = absurd (omega arith)
digits_ones (suc k) (suc n) h =
    let p = pow-suc 2 n in
    let q = pow_pos n in
    let high : (2 ^ suc n - 1) / 2 ≡ 2 ^ n - 1 = omega arith in
    let low : (2 ^ suc n - 1) % 2 ≡ 1 = omega arith in
    let less : n ≤ k = omega arith in
    cons (ap (λ (x : ℕ). eqb x 1) low) (ap (digits k) high ∙ digits_ones k n less)

module _ (a b : ℕ) where
  or_low : eqb (bit_or a b % 2) 1 ≡ (eqb (a % 2) 1 || eqb (b % 2) 1)
  or_low = let s = or_step a b in let e : bit_or a b % 2 ≡ max (a % 2) (b % 2) = omega arith in rw e (grind (arith, nat_tests))

  or_high : bit_or a b / 2 ≡ bit_or (a / 2) (b / 2)
  or_high = let s = or_step a b in omega arith

pub digits_or : (k a b : ℕ) → digits k (bit_or a b) ≡ either (digits k a) (digits k b)
unfolding digits
digits_or zero a b = refl
digits_or (suc k) a b = cons (or_low a b) (ap (digits k) (or_high a b) ∙ digits_or k (a / 2) (b / 2))

-- b & (b - 1) is b without its lowest digit
module _ (b : ℕ) (some : 0 < b) where
  pop_low : bit_and b (b - 1) % 2 ≡ 0
  pop_low = let s = and_step b (b - 1) in omega arith

  pop_even : b % 2 ≡ 0 → bit_and b (b - 1) / 2 ≡ bit_and (b / 2) (b / 2 - 1)
  pop_even e =
      let s = and_step b (b - 1) in
      let h : (b - 1) / 2 ≡ b / 2 - 1 = omega arith in
      let t : bit_and (b / 2) ((b - 1) / 2) ≡ bit_and (b / 2) (b / 2 - 1) = ap (bit_and (b / 2)) h in
      omega arith

  pop_odd : b % 2 ≡ 1 → bit_and b (b - 1) / 2 ≡ b / 2
  pop_odd e =
      let s = and_step b (b - 1) in
      let h : (b - 1) / 2 ≡ b / 2 = omega arith in
      let t : bit_and (b / 2) ((b - 1) / 2) ≡ b / 2 = ap (bit_and (b / 2)) h ∙ and_self (b / 2) in
      omega arith

-- the digit of flow g, if there is one
pub digits_digit : (k g : ℕ) → digits k (digit_of k g) ≡ put (firsts k 0) g true
digits_digit k zero = digits_zero k
digits_digit k (suc i) = ⊎_elim within past (cases_lt i k)
  where
    within : i < k → digits k (digit_of k (suc i)) ≡ put (firsts k 0) (suc i) true
    within h = ap (digits k) (cond-true (ltb i k) (2 ^ i) 0 (lt-ltb i k h)) ∙ digits_pow k i h

    past : k ≤ i → digits k (digit_of k (suc i)) ≡ put (firsts k 0) (suc i) true
    past h =
        ap (digits k) (cond-false (ltb i k) (2 ^ i) 0 (le-ltb i k h)) ∙ digits_zero k
        ∙ sym (set_past (firsts k 0) i true (simp firsts_length h))

-- the same as marks of a set of k flows
module _ (k b : ℕ) where
  one : (g : ℕ) → digits k (digit_of k g) ≡ put (firsts (ListN.length (digits k b)) 0) g true
  one g = digits_digit k g ∙ ap (λ (x : ℕ). put (firsts x 0) g true) (sym (digits_length k b))

  pub digits_has : (g : ℕ) → b < 2 ^ k → not (eqb (bit_and b (digit_of k g)) 0) ≡ has (digits k b) g
  digits_has g h =
      ap not (digits_empty k (bit_and b (digit_of k g)) (omega (arith, and_le_l b (digit_of k g))) ∙ ap empty (digits_and k b (digit_of k g)))
      ∙ ap (λ (x : List Bool). not (empty (both (digits k b) x))) (one g) ∙ both_put (digits k b) g

  pub digits_with : (g : ℕ) → digits k (bit_or b (digit_of k g)) ≡ put (digits k b) g true
  digits_with g = digits_or k b (digit_of k g) ∙ ap (either (digits k b)) (one g) ∙ either_put (digits k b) g

  pub digits_without : (g : ℕ) → digits k (b - bit_and b (digit_of k g)) ≡ put (digits k b) g false
  digits_without g = digits_less k b (digit_of k g) ∙ ap (less (digits k b)) (one g) ∙ less_put (digits k b) g

-- the digit of a flow is small
pub digit_small : (k g : ℕ) → digit_of k g < 2 ^ k
digit_small k zero = pow_pos k
digit_small k (suc i) = cond_both (ltb i k) (2 ^ i) 0 (λ x. x < 2 ^ k) (λ e. pow_below i k (ltb-true i k e)) (λ e. pow_pos k)

parity : (b : ℕ) → (b % 2 ≡ 0) ⊎ (b % 2 ≡ 1)
parity b = ⊎_elim (λ h. inl (omega arith)) (λ h. inr (omega arith)) (cases_lt (b % 2) 1)

-- the lowest of k digits of b stands at t: it is the first member, and b & (b - 1) is without it
abbrev Lowest : ℕ → ℕ → ℕ → ℕ → Type 0
Lowest k i b t = (members_from i (digits k b) ≡ (i + t) ∷ members_from i (digits k (bit_and b (b - 1)))) × (digits k (bit_and b (b - 1)) ≡ ListN.set (digits k b) t false) × (t < k)

module _ (k w i b : ℕ) (some : 0 < b) where
  lowest_odd : b % 2 ≡ 1 → Lowest (suc k) i b (count_trailing_zeros (suc w) b)
  unfolding digits count_trailing_zeros
  lowest_odd e = rw (e, pop_low b some, pop_odd b some e) (ap (λ (x : ℕ). x ∷ members_from (suc i) (digits k (b / 2))) (sym (add-zero i)), refl, omega arith)

  lowest_even : b % 2 ≡ 0 → Lowest k (suc i) (b / 2) (count_trailing_zeros w (b / 2)) → Lowest (suc k) i b (count_trailing_zeros (suc w) b)
  unfolding digits count_trailing_zeros
  lowest_even e h = rw (e, pop_low b some, pop_even b some e) (h.0 ∙ ap (λ (x : ℕ). x ∷ members_from (suc i) (digits k (bit_and (b / 2) (b / 2 - 1)))) (omega arith), cons refl h.1, omega arith)

pub digits_lowest : (k w i b : ℕ) → k ≤ w → 0 < b → b < 2 ^ k → Lowest k i b (count_trailing_zeros w b)
digits_lowest zero w i b h s l = absurd (omega arith)
digits_lowest (suc k) zero i b h s l = absurd (omega arith)
digits_lowest (suc k) (suc w) i b h s l =
    let p = pow-suc 2 k in
    let ih : 0 < b / 2 → Lowest k (suc i) (b / 2) (count_trailing_zeros w (b / 2)) = λ m. digits_lowest k w (suc i) (b / 2) (omega arith) m (omega arith) in
    ⊎_elim (λ e. lowest_even k w i b s e (ih (omega arith))) (λ e. lowest_odd k w i b s e) (parity b)

-- the smallest of 20 flows taken out
pub digits_pop : (b : ℕ) → 0 < b → b < 2 ^ 20 → Popped (Some (count_trailing_zeros 32 b + 1)) (digits 20 b) (digits 20 (bit_and b (b - 1)))
digits_pop b some small =
    let h = digits_lowest 20 32 1 b (lit≤ tt) some small in
    let e : count_trailing_zeros 32 b + 1 ≡ suc (count_trailing_zeros 32 b) = omega arith in
    let f : 1 + count_trailing_zeros 32 b ≡ suc (count_trailing_zeros 32 b) = omega arith in
    rw e (rw f at h.0, h.1, omega arith, omega arith)

pub digits_spent : (k i : ℕ) → members_from i (digits k 0) ≡ []
unfolding digits
digits_spent zero i = refl
digits_spent (suc k) i = digits_spent k (suc i)

-- the first n of 20 flows
pub digits_first : (n c : ℕ) → c ≡ min n 20 → digits 20 (2 ^ c - 1) ≡ firsts 20 n
digits_first n c e = digits_ones 20 c (omega arith) ∙ capped (cases_lt n 20)
  where
    capped : (n < 20) ⊎ (20 ≤ n) → firsts 20 c ≡ firsts 20 n
    capped (inl h) = let same : c ≡ n = omega arith in ap (firsts 20) same
    capped (inr h) = let same : c ≡ 20 = omega arith in ap (firsts 20) same ∙ firsts_all 20 n h

-- 2 ^ c - 1, as a shift gives it, is below 2 ^ 20
pub first_small : (c : ℕ) → c ≤ 20 → (1 * 2 ^ c) % 2 ^ 32 - 1 < 2 ^ 20
first_small c h =
    let shift = one_shl c 32 (omega arith) in
    let some = pow_pos c in
    let small : 2 ^ c ≤ 2 ^ 20 = pow_mono h in
    omega arith
