-- The choice among candidates: the flows of a set that pass a test, and the one of largest key. Assumes nothing.
--   keep      the flows of a set that pass a test
--   slack     how long before the deadline of a flow an answer is
--   choice    the flow of a set with the largest key, of several such the smallest
--   Chosen    what it is to be that flow
use Rattle.std.specs.Prelude.{◌≡◌, ℕ, suc, ◌-◌, ◌≤◌, Bool, true, cond, ◌&&◌, List, [], ◌∷◌, Some, None, Option, nat_lt}
use Rattle.rule.specs.Lists.{has}
use Rattle.rule.specs.FlowSets.{members}

-- the flows that pass a test, of a set whose first mark is for flow i
abbrev pub keep_from : (ℕ → Bool) → ℕ → List Bool → List Bool
keep_from test i [] = []
keep_from test i (mark ∷ set) = (mark && test i) ∷ keep_from test (suc i) set

-- the flows of a set that pass a test
abbrev pub keep : (ℕ → Bool) → List Bool → List Bool
keep test set = keep_from test 1 set

-- how long before a deadline an answer is; 0 without an answer
abbrev pub slack : ℕ → Option ℕ → ℕ
slack deadline None = 0
slack deadline (Some r) = deadline - r

-- of flow g and the flows of a list, the first with the largest key
abbrev pub best : (ℕ → ℕ) → ℕ → List ℕ → ℕ
best key g [] = g
best key g (h ∷ hs) = best key (cond (nat_lt (key g) (key h)) h g) hs

-- of the flows of a list, the first with the largest key; 0 of none
abbrev pub first_best : (ℕ → ℕ) → List ℕ → ℕ
first_best key [] = 0
first_best key (g ∷ gs) = best key g gs

-- the flow of a set with the largest key, of several such the smallest; 0 of the empty set
abbrev pub choice : (ℕ → ℕ) → List Bool → ℕ
choice key set = first_best key (members set)

-- flow g is the choice of a set by a key
pub record Chosen (key : ℕ → ℕ) (set : List Bool) (g : ℕ) : Type 0 where
  -- it is in the set
  pub inside : has set g ≡ true
  -- no flow of the set has a larger key
  pub largest : (h : ℕ) → has set h ≡ true → key h ≤ key g
  -- none with the same key has a smaller number
  pub smallest : (h : ℕ) → has set h ≡ true → key h ≡ key g → g ≤ h
