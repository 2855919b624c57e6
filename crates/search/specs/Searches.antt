-- A walk's tables agree with the meaning of a rule, and a placing keeps that. Assumes nothing.
--   Walked     the tables hold what the rule means, and stand where the walk does after some placings
--   Stepped, SteppedOn    what a placing, and so many, do
--   Blank, Started         a walk before and after it enters its lowest level
use Rattle.std.specs.Prelude.{◌≡◌, ℕ, suc, ◌<◌, ◌≤◌, true, List, [], slice_index_or}
use Rattle.rule.specs.Meaning.{Meaning, leading}
use Rattle.rule.specs.Questions.{table}
use Rattle.search.specs.declared.tables.Walk.{Walk}
use Rattle.search.specs.declared.tables.Stage.TheVariants.{Open, Order}
use Rattle.walk.specs.Walk.{unplaced, step, steps, after}
use Rattle.search.specs.Tables.{Row, slacks, filled, order_of, standing}

pub record Walked (m : Meaning) (w : Walk) : Type 0 where
  -- the number of flows is the rule's
  pub flows : w.flows ≡ m.flows
  -- the times kept for a level are those between floor and deadline
  pub rows : (i : ℕ) → w.level ≤ suc i → i < w.flows → Row m (unplaced w.flows (filled w (suc i))) (slice_index_or (slacks w) i [])
  -- the bounds kept of an order are the rule's
  pub bounds : (ticks : List ℕ) → w.stage ≡ Order ticks → ticks ≡ (table (leading m [] (order_of w))).ticks
  -- it stands where the walk does after some number of placings
  pub reached : (k : ℕ) × (standing w ≡ after m k)

-- one placing more
pub record Stepped (m : Meaning) (before after : Walk) : Type 0 where
  pub walked : Walked m before → Walked m after
  pub stands : Walked m before → standing after ≡ step m (standing before)

-- so many placings more
pub record SteppedOn (m : Meaning) (placings : ℕ) (before after : Walk) : Type 0 where
  pub walked : Walked m before → Walked m after
  pub stands : Walked m before → standing after ≡ steps m placings (standing before)

-- a walk of so many flows that is to enter its lowest level
pub record Blank (flows : ℕ) (w : Walk) : Type 0 where
  pub flows_are : w.flows ≡ flows
  pub lowest : w.level ≡ flows
  pub sure : w.sure ≡ true
  pub count : w.count ≡ 0
  pub stage : w.stage ≡ Open

-- a walk that has entered its lowest level and moved on
pub record Started (m : Meaning) (w : Walk) : Type 0 where
  pub walked : Walked m w
  pub stands : standing w ≡ after m 0
