-- The table of rule J: what it keeps as flows are settled, and the interference jitter that it gives. Assumes nothing.
use Rattle.std.proofs.Common.{◌≡◌, ℕ, zero, suc, ◌-◌, ◌≤◌, true, eqb, ◌⊎◌, List, [], ◌∷◌, length, get_or, set, replicate, sym, refl, ◌∙◌, subst, inl, inr, arith}
use Rattle.std.proofs.lemmas.List.{length-set, get_or-set_same, get_or-set_other}
use Rattle.std.proofs.lemmas.Bool.{cases_eq, eqb-true, or_cases, or_right}
use Rattle.rule.specs.Lists.{among}
use Rattle.interference.specs.Tables.{of_flow}
use Rattle.interference.proofs.Solved.{zeros}

-- a small number written into a table of small numbers
pub set_small : (xs : List ℕ) (i v m : ℕ) → v ≤ m → ((j : ℕ) → get_or xs j 0 ≤ m) → (j : ℕ) → get_or (set xs i v) j 0 ≤ m
set_small [] i v m few small j = omega arith
set_small (x ∷ xs) zero v m few small zero = few
set_small (x ∷ xs) zero v m few small (suc j) = small (suc j)
set_small (x ∷ xs) (suc i) v m few small zero = small 0
set_small (x ∷ xs) (suc i) v m few small (suc j) = set_small xs i v m few (λ k. small (suc k)) j

-- A table has been filled, as W asks, for the flows of a list that are not still to come; all of it is small.
pub record Filled (W : ℕ → ℕ → Type 0) (all coming : List ℕ) (table : List ℕ) : Type 0 where
  pub sized : length table ≡ 20
  pub small : (i : ℕ) → get_or table i 0 ≤ 1000000
  pub within : (j : ℕ) → among j coming ≡ true → among j all ≡ true
  pub done : (j : ℕ) → among j all ≡ true → (among j coming ≡ true) ⊎ W j (of_flow table j)

pub filled_start : (W : ℕ → ℕ → Type 0) (all : List ℕ) → Filled W all all (replicate 20 0)
filled_start W all = record { sized = refl; small = λ i. omega (arith, zeros 20 i); within = λ j asked. asked; done = λ j asked. inl asked }

-- one flow more
pub filled_more : (W : ℕ → ℕ → Type 0) (all before after : List ℕ) (table : List ℕ) (j v : ℕ) → before ≡ j ∷ after → 1 ≤ j → j ≤ 20 → ((k : ℕ) → among k all ≡ true → 1 ≤ k) → W j v → v ≤ 1000000 → Filled W all before table → Filled W all after (set table (j - 1) v)
filled_more W all before after table j v e some few flows own low old =
    record {
      sized = length-set table (j - 1) v ∙ old.sized;
      small = set_small table (j - 1) v 1000000 low old.small;
      within = λ k asked. old.within k (rw e (or_right (eqb k j) (among k after) asked));
      done = λ k asked. go k asked (cases_eq k j) (old.done k asked);
    }
  where
    here : W j (of_flow (set table (j - 1) v) j)
    here = subst (W j) (sym (get_or-set_same table (j - 1) v 0 (omega (arith, old.sized)))) own

    other : (k : ℕ) → among k all ≡ true → (k ≡ j → ⊥) → of_flow (set table (j - 1) v) k ≡ of_flow table k
    other k asked n = get_or-set_other table (j - 1) (k - 1) v 0 (λ s. n (omega (arith, flows k asked)))

    go : (k : ℕ) → among k all ≡ true → (k ≡ j) ⊎ (k ≡ j → ⊥) → (among k before ≡ true) ⊎ W k (of_flow table k) → (among k after ≡ true) ⊎ W k (of_flow (set table (j - 1) v) k)
    go k asked (inl s) was = inr (subst (λ i. W i (of_flow (set table (j - 1) v) i)) (sym s) here)
    go k asked (inr n) (inl coming) = inl (left (or_cases (eqb k j) (among k after) (rw e at coming)))
      where
        left : (eqb k j ≡ true) ⊎ (among k after ≡ true) → among k after ≡ true
        left (inl s) = absurd (n (eqb-true k j s))
        left (inr later) = later
    go k asked (inr n) (inr was) = inr (subst (W k) (sym (other k asked n)) was)
