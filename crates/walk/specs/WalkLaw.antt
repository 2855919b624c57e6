-- The law of the walk: what holds of it after any number of placings, for every rule that keeps the laws. Assumes nothing.
--   most_placings     the largest number of placings with n flows
--   NoOrderPasses          no order passes
--   SoundOrder       an order that passes, each bound in time
--   WalkLaw          the law
use Rattle.std.specs.Prelude.{◌≡◌, ℕ, zero, suc, ◌+◌, ◌*◌, ◌^◌, ◌<◌, ◌≤◌, Bool, true, false, List, length, take, slice_index}
use Rattle.rule.specs.FlowSets.{empty}
use Rattle.rule.specs.Lists.{Order}
use Rattle.rule.specs.Meaning.{Meaning, Passes, NoLater}
use Rattle.walk.specs.Choice.{Chosen}
use Rattle.walk.specs.Walk.{Frame, found, nothing, placed, unplaced, floor_slack, ceiling_slack, with_ceiling, by_ceiling, settled_by_ceiling, next, after, steps, ended, count_of}

-- n + n (n - 1) + .. + n!, a sum of n terms
abbrev pub most_placings : ℕ → ℕ
most_placings zero = 0
most_placings (suc n) = suc n * (1 + most_placings n)

-- no order of the flows passes
abbrev pub NoOrderPasses : Meaning → Type 0
NoOrderPasses m = (order : List ℕ) → Order m.flows order → Passes m order → ⊥

-- each flow stands on exactly one level, and has a bound under those above it, no later than its deadline
pub record SoundOrder (m : Meaning) (order : List ℕ) : Type 0 where
  pub each_once : Order m.flows order
  pub every_level : length order ≡ m.flows
  pub bounded : Passes m order
  pub timely : (i : ℕ) → i < m.flows → NoLater (m.bound (slice_index order i) (take i order)) (m.deadline (slice_index order i))

pub record WalkLaw (m : Meaning) : Type 0 where
  -- a placing takes the untried candidate with the most time between floor and deadline
  pub next_chosen : (untried : List Bool) (below : List Frame) → empty untried ≡ false → Chosen (floor_slack m (unplaced m.flows (placed below))) untried (next m untried below)
  -- the one candidate of a level settled by ceiling is the flow with the most time between ceiling and deadline
  pub ceiling_chosen : (free : List Bool) → settled_by_ceiling m true free ≡ true → Chosen (ceiling_slack m free) (with_ceiling m free) (by_ceiling m free)
  -- a walk that ended without an order leaves none that passes
  pub nothing_passes : (k count : ℕ) → after m k ≡ nothing count → NoOrderPasses m
  -- an order that ended the walk passes
  pub order_passes : (k count : ℕ) (order : List ℕ) → after m k ≡ found count order → SoundOrder m order
  -- while the walk goes on it has made every placing that it was allowed, and never more
  pub open_count : (k : ℕ) → ended (after m k) ≡ false → count_of (after m k) ≡ k
  pub count_most : (k : ℕ) → count_of (after m k) ≤ k
  -- the walk ends, within the largest number of placings
  pub ends : (k : ℕ) → most_placings m.flows ≤ k → ended (after m k) ≡ true
  pub count_small : (k : ℕ) → count_of (after m k) ≤ most_placings m.flows
  pub most_small : most_placings m.flows < 2 ^ 63
  -- the count tells where the walk stands
  pub at_count : (k : ℕ) → after m (count_of (after m k)) ≡ after m k
  -- placings allowed one after another are placings allowed together
  pub onward : (k more : ℕ) → steps m more (after m k) ≡ after m (k + more)
