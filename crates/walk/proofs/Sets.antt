-- Sets of flows by their members: one flow in or out, the first flows, and how many a set has. Assumes nothing.
--   has_put_same, -other   a flow put in or out of a set
--   has_less, has_first    what one set has beyond another, and the flows up to n
--   same_set               sets with the same flows are equal
--   size_below, -above     a set within 1 to n has at most n flows, and one of all those has n
use Rattle.std.proofs.Common.{◌≡◌, ℕ, zero, suc, ◌<◌, ◌≤◌, Bool, true, false, not, ◌&&◌, ltb, List, [], ◌∷◌, length, get_or, sym, refl, ap, ◌∙◌, arith}
use lib.Dec.{leb-suc-suc}
use Rattle.std.proofs.lemmas.Bool.Decides.{nat_tests}
use Rattle.std.proofs.lemmas.Bool.{both_ways, lt-ltb, le-ltb}
use Rattle.std.proofs.lemmas.List.{get_or-set_same, get_or-set_other, ext_get_or, length-set}
use Rattle.rule.specs.Lists.{is_flow, has}
use Rattle.rule.specs.FlowSets.{put, firsts, first_flows, less, size}
use Rattle.rule.proofs.Marks.{firsts_length}

-- a flow put in or taken out, and the other flows
pub has_put_same : (set : List Bool) (g : ℕ) (b : Bool) → 1 ≤ g → g ≤ length set → has (put set g b) g ≡ b
has_put_same set zero b h l = absurd (omega arith)
has_put_same set (suc i) b h l = get_or-set_same set i b false l

pub has_put_other : (set : List Bool) (g h : ℕ) (b : Bool) → (h ≡ g → ⊥) → has (put set g b) h ≡ has set h
has_put_other set zero h b ne = refl
has_put_other set (suc i) zero b ne = refl
has_put_other set (suc i) (suc j) b ne = get_or-set_other set i j b false (λ (e : j ≡ i). ne (ap suc e))

pub put_length : (set : List Bool) (g : ℕ) (b : Bool) → length (put set g b) ≡ length set
put_length set zero b = refl
put_length set (suc i) b = length-set set i b

less_at : (set others : List Bool) (j : ℕ) → get_or (less set others) j false ≡ (get_or set j false && not (get_or others j false))
less_at [] others j = refl
less_at (true ∷ set) [] zero = refl
less_at (false ∷ set) [] zero = refl
less_at (mark ∷ set) [] (suc j) = kept (get_or set j false)
  where
    kept : (b : Bool) → b ≡ (b && true)
    kept true = refl
    kept false = refl
less_at (mark ∷ set) (other ∷ others) zero = refl
less_at (mark ∷ set) (other ∷ others) (suc j) = less_at set others j

-- the flows of one set that are not in another
pub has_less : (set others : List Bool) (g : ℕ) → has (less set others) g ≡ (has set g && not (has others g))
has_less set others zero = refl
has_less set others (suc i) = less_at set others i

pub less_length : (set others : List Bool) → length (less set others) ≡ length set
less_length [] others = refl
less_length (mark ∷ set) [] = refl
less_length (mark ∷ set) (other ∷ others) = ap suc (less_length set others)

firsts_at : (k n j : ℕ) → n ≤ k → get_or (firsts k n) j false ≡ ltb j n
firsts_at zero n j h = sym (le-ltb j n (omega arith))
firsts_at (suc k) zero zero h = refl
firsts_at (suc k) zero (suc j) h = firsts_at k zero j (omega arith) ∙ le-ltb j 0 (omega arith) ∙ sym (le-ltb (suc j) 0 (omega arith))
firsts_at (suc k) (suc n) zero h = sym (lt-ltb 0 (suc n) (omega arith))
firsts_at (suc k) (suc n) (suc j) h = firsts_at k n j (omega arith) ∙ sym (leb-suc-suc (suc j) n)

-- the flows up to n
pub has_first : (n g : ℕ) → n ≤ 20 → has (first_flows n) g ≡ is_flow n g
unfolding first_flows
has_first n zero h = refl
has_first n (suc i) h = firsts_at 20 n i h ∙ grind (arith, nat_tests)

pub first_length : (n : ℕ) → length (first_flows n) ≡ 20
unfolding first_flows
first_length n = firsts_length 20 n

-- sets with the same flows are equal
pub same_set : (s t : List Bool) → length s ≡ 20 → length t ≡ 20 → ((g : ℕ) → 1 ≤ g → g ≤ 20 → has s g ≡ has t g) → s ≡ t
same_set s t p q h = ext_get_or false s t (p ∙ sym q) (λ i l. h (suc i) (omega arith) (omega arith))

-- a set with no flow past n has at most n
pub size_below : (n : ℕ) (set : List Bool) → ((j : ℕ) → n ≤ j → get_or set j false ≡ false) → size set ≤ n
size_below n [] h = omega arith
size_below zero (true ∷ set) h = absurd (both_ways true (h 0 (omega arith)) refl)
size_below zero (false ∷ set) h = let t = size_below zero set (λ j l. h (suc j) (omega arith)) in omega arith
size_below (suc n) (true ∷ set) h = let t = size_below n set (λ j l. h (suc j) (omega arith)) in omega arith
size_below (suc n) (false ∷ set) h = let t = size_below n set (λ j l. h (suc j) (omega arith)) in omega arith

-- a set with every flow up to n has at least n
pub size_above : (n : ℕ) (set : List Bool) → n ≤ length set → ((j : ℕ) → j < n → get_or set j false ≡ true) → n ≤ size set
size_above zero set l h = omega arith
size_above (suc n) [] l h = absurd (omega arith)
size_above (suc n) (true ∷ set) l h = let t = size_above n set (omega arith) (λ j p. h (suc j) (omega arith)) in omega arith
size_above (suc n) (false ∷ set) l h = absurd (both_ways false refl (h 0 (omega arith)))
