-- The equation of a latency and its least solution. Assumes nothing.
--   up             division rounded up
--   Interferer     a flow that delays another: how often it sends, for how long, and how late a packet may come
--   demand         the ticks that a packet and its interferers take within r ticks
--   least          the least r not above a limit with r = demand r, or nothing
--   Least          the same in words: what the answer is, and when there is none
use Rattle.std.specs.Prelude.{◌≡◌, ℕ, zero, suc, ◌+◌, ◌-◌, ◌*◌, ◌/◌, ◌<◌, ◌≤◌, cond, List, [], ◌∷◌, Some, None, Option, ◌==◌, ◌≢◌}

-- the least whole number not below n / t
abbrev pub up : ℕ → ℕ → ℕ
up n t = (n + (t - 1)) / t

-- a flow that delays another; its packets come up to `offset` ticks later than its period has them come
pub record Interferer : Type 0 where
  pub period : ℕ
  pub latency : ℕ
  pub offset : ℕ

-- the ticks that an interferer takes within r ticks: one latency for each packet that may come in them
abbrev pub taken : Interferer → ℕ → ℕ
taken x r = up (r + x.offset) x.period * x.latency

-- the ticks that all interferers take within r ticks
abbrev pub load : List Interferer → ℕ → ℕ
load [] r = 0
load (x ∷ xs) r = taken x r + load xs r

-- the right side of the equation: a packet of `base` ticks, and what its interferers take within r ticks
abbrev pub demand : ℕ → List Interferer → ℕ → ℕ
demand base xs r = base + load xs r

-- the first of the k numbers from r up that the function g leaves as they are, or nothing
abbrev pub first_fixed : (ℕ → ℕ) → ℕ → ℕ → Option ℕ
first_fixed g zero r = None
first_fixed g (suc k) r = let later : Option ℕ = first_fixed g k (suc r) in cond (r == g r) (Some r) later

-- the least r ≤ limit with r = base + the load of the interferers within r ticks, or nothing
unfoldable pub least : ℕ → ℕ → List Interferer → Option ℕ
least base limit xs = first_fixed (demand base xs) (suc limit) 0

-- r is within the limit, solves the equation r = g r, and nothing smaller does
pub record LeastFixed (g : ℕ → ℕ) (limit r : ℕ) : Type 0 where
  pub within : r ≤ limit
  pub solves : r ≡ g r
  pub smallest : (s : ℕ) → s < r → s ≢ g s

-- an answer is the least solution within the limit, and there is none only if no number within the limit solves
abbrev pub Least : (ℕ → ℕ) → ℕ → Option ℕ → Type 0
Least g limit (Some r) = LeastFixed g limit r
Least g limit None = (s : ℕ) → s ≤ limit → s ≢ g s
