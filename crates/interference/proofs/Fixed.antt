-- Least solutions of r = g r: what the search for one tells, that it is found, and that a smaller g has one no later. Assumes nothing.
use Rattle.std.proofs.Common.{◌≡◌, ℕ, zero, suc, ◌+◌, ◌<◌, ◌≤◌, Bool, true, false, cond, eqb, ◌⊎◌, List, Some, None, Option, refl, ap, inl, inr, arith}
use Rattle.std.proofs.lemmas.Bool.{eqb-true, eqb-false, cases_eq, cases_lt}
use Rattle.rule.specs.Meaning.{NoLater, InTime}
use Rattle.interference.specs.Solution.{Interferer, demand, first_fixed, least, Least}

-- what the search among the k numbers from r up tells: the first of them that is fixed, or that none is
abbrev First : (ℕ → ℕ) → ℕ → ℕ → Option ℕ → Type 0
First g k r (Some s) = (r ≤ s) × (s < r + k) × (s ≡ g s) × ((t : ℕ) → r ≤ t → t < s → t ≡ g t → ⊥)
First g k r None = (t : ℕ) → r ≤ t → t < r + k → t ≡ g t → ⊥

-- a search that passes over r tells what the search from r + 1 tells
pass : (g : ℕ → ℕ) (k r : ℕ) (o : Option ℕ) → (r ≡ g r → ⊥) → First g k (suc r) o → First g (suc k) r o
pass g k r (Some s) not-r h = (omega arith, omega arith, h.2, λ t from below fixed. go t from below fixed (cases_eq r t))
  where
    go : (t : ℕ) → r ≤ t → t < s → t ≡ g t → (r ≡ t) ⊎ (r ≡ t → ⊥) → ⊥
    go t from below fixed (inl e) = not-r (rw e fixed)
    go t from below fixed (inr n) = h.3 t (omega arith) below fixed
pass g k r None not-r h = λ t from below fixed. go t from below fixed (cases_eq r t)
  where
    go : (t : ℕ) → r ≤ t → t < r + suc k → t ≡ g t → (r ≡ t) ⊎ (r ≡ t → ⊥) → ⊥
    go t from below fixed (inl e) = not-r (rw e fixed)
    go t from below fixed (inr n) = h t (omega arith) (omega arith) fixed

first_is : (g : ℕ → ℕ) (k r : ℕ) → First g k r (first_fixed g k r)
first_is g zero r = λ t from below fixed. omega arith
first_is g (suc k) r = go (eqb r (g r)) refl (first_is g k (suc r))
  where
    go : (b : Bool) → eqb r (g r) ≡ b → First g k (suc r) (first_fixed g k (suc r)) → First g (suc k) r (cond b (Some r) (first_fixed g k (suc r)))
    go true e h = (omega arith, omega arith, eqb-true r (g r) e, λ t from below fixed. omega arith)
    go false e h = pass g k r (first_fixed g k (suc r)) (eqb-false r (g r) e) h

least_of : (g : ℕ → ℕ) (limit : ℕ) (o : Option ℕ) → First g (suc limit) 0 o → Least g limit o
least_of g limit (Some r) h = record { within = omega arith; solves = h.2; smallest = λ s below fixed. h.3 s (omega arith) below fixed }
least_of g limit None h = λ s within fixed. h s (omega arith) (omega arith) fixed

-- the answer of the search is the least solution within the limit
pub least_is : (base limit : ℕ) (xs : List Interferer) → Least (demand base xs) limit (least base limit xs)
unfolding least
least_is base limit xs = least_of (demand base xs) limit (first_fixed (demand base xs) (suc limit) 0) (first_is (demand base xs) (suc limit) 0)

-- a function that keeps order and does not raise r has a fixed number not above r; n is what is left to look through
down : (g : ℕ → ℕ) → ((s t : ℕ) → s ≤ t → g s ≤ g t) → (n r : ℕ) → r ≤ n → g r ≤ r → (s : ℕ) × (s ≤ r) × (s ≡ g s)
down g keeps zero r few falls = (r, omega arith, omega arith)
down g keeps (suc n) r few falls = go (cases_eq r (g r)) (λ lower. down g keeps n (g r) (omega arith) (keeps (g r) r falls))
  where
    go : (r ≡ g r) ⊎ (r ≡ g r → ⊥) → (g r < r → (s : ℕ) × (s ≤ g r) × (s ≡ g s)) → (s : ℕ) × (s ≤ r) × (s ≡ g s)
    go (inl e) below = (r, omega arith, e)
    go (inr n) below = let found = below (omega arith) in (found.0, omega (arith, found.1), found.2)

pub fixed_below : (g : ℕ → ℕ) → ((s t : ℕ) → s ≤ t → g s ≤ g t) → (r : ℕ) → g r ≤ r → (s : ℕ) × (s ≤ r) × (s ≡ g s)
fixed_below g keeps r falls = down g keeps r r (omega arith) falls

-- no later than s is no later than what s is no later than
pub no_later : (o : Option ℕ) (s r : ℕ) → s ≤ r → NoLater o s → NoLater o r
no_later (Some q) s r h k = omega arith
no_later None s r h k = k

-- where a number within the limit solves, the answer is a number no later
pub found : (g : ℕ → ℕ) (limit s : ℕ) (o : Option ℕ) → Least g limit o → s ≤ limit → s ≡ g s → NoLater o s
found g limit s (Some r) h within solves = go (cases_lt s r)
  where
    go : (s < r) ⊎ (r ≤ s) → r ≤ s
    go (inl below) = absurd (h.smallest s below solves)
    go (inr upto) = upto
found g limit s None h within solves = h s within solves

-- two answers for one equation are one
pub only : (g : ℕ → ℕ) (limit : ℕ) (o p : Option ℕ) → Least g limit o → Least g limit p → o ≡ p
only g limit (Some r) (Some s) h k = ap Some (omega (arith, found g limit s (Some r) h k.within k.solves, found g limit r (Some s) k h.within h.solves))
only g limit (Some r) None h k = absurd (k r h.within h.solves)
only g limit None (Some s) h k = absurd (h s k.within k.solves)
only g limit None None h k = refl

-- a least solution is no later than the limit
pub timely : (g : ℕ → ℕ) (limit : ℕ) (o : Option ℕ) → Least g limit o → InTime o limit
timely g limit (Some r) h = h.within
timely g limit None h = tt

-- in time for a limit is in time for a later one
pub in_time : (o : Option ℕ) (limit later : ℕ) → limit ≤ later → InTime o limit → InTime o later
in_time (Some r) limit later h k = omega arith
in_time None limit later h k = tt
