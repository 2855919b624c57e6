-- Sets of flows as lists of marks: one flow in or out, the first flows, and members. Assumes nothing.
use Rattle.std.proofs.Common.{◌≡◌, ℕ, zero, suc, ◌+◌, ◌<◌, ◌≤◌, Bool, true, false, not, ◌||◌, List, [], ◌∷◌, length, get_or, refl, ap, ◌∙◌, ap₂, arith}
use lib.ListN as ListN
use Rattle.std.proofs.lemmas.Bool.Decides.{nat_tests}
use Rattle.rule.specs.Lists.{marks_from, has, within, within_from}
use Rattle.rule.specs.FlowSets.{put, firsts, first_flows, both, less, empty}

-- the flows that are in one set or the other
abbrev pub either : List Bool → List Bool → List Bool
either [] others = []
either (mark ∷ set) [] = mark ∷ set
either (mark ∷ set) (other ∷ others) = (mark || other) ∷ either set others

-- a list of marks whose first and whose others are given
pub cons : {mark other : Bool} {set others : List Bool} → mark ≡ other → set ≡ others → mark ∷ set ≡ other ∷ others
cons p q = ap₂ (λ (x : Bool) (xs : List Bool). x ∷ xs) p q

pub firsts_length : (k n : ℕ) → length (firsts k n) ≡ k
firsts_length zero n = refl
firsts_length (suc k) zero = ap suc (firsts_length k zero)
firsts_length (suc k) (suc n) = ap suc (firsts_length k n)

-- beside no flow at all
pub both_none : (set : List Bool) → empty (both set (firsts (length set) 0)) ≡ true
both_none [] = refl
both_none (true ∷ set) = both_none set
both_none (false ∷ set) = both_none set

pub either_none : (set : List Bool) → either set (firsts (length set) 0) ≡ set
either_none [] = refl
either_none (true ∷ set) = cons refl (either_none set)
either_none (false ∷ set) = cons refl (either_none set)

pub less_none : (set : List Bool) → less set (firsts (length set) 0) ≡ set
less_none [] = refl
less_none (true ∷ set) = cons refl (less_none set)
less_none (false ∷ set) = cons refl (less_none set)

-- beside a set that has one flow
one_both : (set : List Bool) (i : ℕ) → not (empty (both set (ListN.set (firsts (length set) 0) i true))) ≡ get_or set i false
one_both [] i = refl
one_both (true ∷ set) zero = refl
one_both (false ∷ set) zero = ap not (both_none set)
one_both (true ∷ set) (suc i) = one_both set i
one_both (false ∷ set) (suc i) = one_both set i

one_either : (set : List Bool) (i : ℕ) → either set (ListN.set (firsts (length set) 0) i true) ≡ ListN.set set i true
one_either [] i = refl
one_either (true ∷ set) zero = cons refl (either_none set)
one_either (false ∷ set) zero = cons refl (either_none set)
one_either (true ∷ set) (suc i) = cons refl (one_either set i)
one_either (false ∷ set) (suc i) = cons refl (one_either set i)

one_less : (set : List Bool) (i : ℕ) → less set (ListN.set (firsts (length set) 0) i true) ≡ ListN.set set i false
one_less [] i = refl
one_less (true ∷ set) zero = cons refl (less_none set)
one_less (false ∷ set) zero = cons refl (less_none set)
one_less (true ∷ set) (suc i) = cons refl (one_less set i)
one_less (false ∷ set) (suc i) = cons refl (one_less set i)

-- to meet the set of flow g is to hold g
pub both_put : (set : List Bool) (g : ℕ) → not (empty (both set (put (firsts (length set) 0) g true))) ≡ has set g
both_put set zero = ap not (both_none set)
both_put set (suc i) = one_both set i

-- the set of flow g joined to a set puts g in
pub either_put : (set : List Bool) (g : ℕ) → either set (put (firsts (length set) 0) g true) ≡ put set g true
either_put set zero = either_none set
either_put set (suc i) = one_either set i

-- the set of flow g taken from a set puts g out
pub less_put : (set : List Bool) (g : ℕ) → less set (put (firsts (length set) 0) g true) ≡ put set g false
less_put set zero = less_none set
less_put set (suc i) = one_less set i

-- the empty list has no marks
pub marks_from_none : (k i : ℕ) → firsts k 0 ≡ marks_from k i []
marks_from_none zero i = refl
marks_from_none (suc k) i = cons refl (marks_from_none k (suc i))

-- all of k marks, and no more
pub firsts_all : (k n : ℕ) → k ≤ n → firsts k k ≡ firsts k n
firsts_all zero n h = refl
firsts_all (suc k) zero h = absurd (omega arith)
firsts_all (suc k) (suc n) h = let less : k ≤ n = omega arith in cons refl (firsts_all k n less)

-- a set is within n when nothing is left of it beyond the first n
within_past : (set : List Bool) (n i : ℕ) → n < i → within_from n i set ≡ empty (less set (firsts (length set) 0))
within_past [] n i h = refl
within_past (true ∷ set) n i h = grind (arith, nat_tests)
within_past (false ∷ set) n i h = within_past set n (suc i) (omega arith)

pub within_firsts : (set : List Bool) (d n i : ℕ) → d + i ≡ suc n → within_from n i set ≡ empty (less set (firsts (length set) d))
within_firsts set zero n i h = within_past set n i (omega arith)
within_firsts [] (suc d) n i h = refl
within_firsts (true ∷ set) (suc d) n i h = let t = within_firsts set d n (suc i) (omega arith) in grind (arith, nat_tests)
within_firsts (false ∷ set) (suc d) n i h = within_firsts set d n (suc i) (omega arith)

pub within_first : (n : ℕ) (set : List Bool) → length set ≡ 20 → within n set ≡ empty (less set (first_flows n))
unfolding first_flows
within_first n set e = within_firsts set n n 1 (omega arith) ∙ ap (λ (x : ℕ). empty (less set (firsts x n))) e
