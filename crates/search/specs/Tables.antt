-- How the tables of a walk stand for where it stands. Assumes nothing.
--   filled       the flows on the levels past one, the nearest first
--   untried_of   the candidates of the level to be filled
--   standing     the state that the tables stand for
--   spent, next_of    whether the walk is to back up; the candidate that is next
--   MovedOn, Put      what backing up and a placing change
use Rattle.std.specs.Prelude.{◌≡◌, ℕ, ◌+◌, ◌-◌, ◌^◌, ◌≤◌, min, Bool, true, false, cond, List, [], ◌∷◌, map, take, drop, Some, None, Option, slice_index_or, slice_set}
use Rattle.rule.specs.FlowSets.{marks_of, put, empty}
use Rattle.search.specs.declared.tables.Walk.{Walk}
use Rattle.search.specs.declared.tables.Stage.{Stage}
use Rattle.search.specs.declared.tables.Stage.TheVariants.{Open, Order, NoOrder}
use Rattle.search.specs.declared.candidates.Candidates.{Candidates}
use Rattle.rule.specs.Lists.{is_flow, distinct, has}
use Rattle.rule.specs.Meaning.{Meaning, leading}
use Rattle.rule.specs.Questions.{table}
use Rattle.walk.specs.Walk.{Frame, State, going, found, nothing, unplaced, floor_slack, by_ceiling, settled_by_ceiling, candidates, settle, passes}
use Rattle.search.specs.Candidates.{entry_of, choice_by, chosen_by}

-- the untried candidates by level, as marks
abbrev pub masks : Walk → List (List Bool)
masks w = map (λ (c : Candidates). marks_of c.set) w.candidates

-- by level, how long before its deadline the floor of each flow is
abbrev pub slacks : Walk → List (List ℕ)
slacks w = map (λ (c : Candidates). c.slack) w.candidates

-- the flows on the levels past k, the nearest first
abbrev pub filled : Walk → ℕ → List ℕ
filled w k = drop k (take w.flows w.placed)

-- levels from their flows and untried candidates
abbrev pub frames : List ℕ → List (List Bool) → List Frame
frames [] sets = []
frames (f ∷ fs) [] = []
frames (f ∷ fs) (s ∷ ss) = record { flow = f; untried = s } ∷ frames fs ss

-- the levels past k
abbrev pub below_of : Walk → ℕ → List Frame
below_of w k = frames (filled w k) (drop k (masks w))

-- the candidates of the level to be filled
abbrev pub untried_of : Walk → List Bool
untried_of w = slice_index_or (masks w) (w.level - 1) []

-- the walk with the candidates of its level, before it moves on
abbrev pub moving : Walk → State
moving w = settle w.count w.sure (untried_of w) (below_of w w.level)

-- the state that the tables stand for, by the stage
abbrev pub standing_by : Stage → Walk → State
standing_by Open w = going w.count w.sure (untried_of w) (below_of w w.level)
standing_by (Order bounds) w = found w.count (take w.flows w.placed)
standing_by NoOrder w = nothing w.count

-- the state that the tables stand for
abbrev pub standing : Walk → State
standing w = standing_by w.stage w

-- whether the walk goes on, with no candidate left on the level to be filled
abbrev pub spent_by : Stage → Walk → Bool
spent_by Open w = empty (untried_of w)
spent_by (Order bounds) w = false
spent_by NoOrder w = false

abbrev pub spent : Walk → Bool
spent w = spent_by w.stage w

-- the times by which a candidate of the level to be filled is chosen
abbrev pub slack_of : Walk → List ℕ
slack_of w = slice_index_or (slacks w) (w.level - 1) []

-- the candidate that is chosen of the level to be filled
abbrev pub choice_of : Walk → ℕ
choice_of w = choice_by (slack_of w) (untried_of w)

-- the candidate that is next; nothing once the walk has ended
abbrev pub next_by : Stage → Walk → Option ℕ
next_by Open w = chosen_by (slack_of w) (untried_of w)
next_by (Order bounds) w = None
next_by NoOrder w = None

abbrev pub next_of : Walk → Option ℕ
next_of w = next_by w.stage w

-- everything but where the walk stands among its levels is kept
pub record SameTables (before after : Walk) : Type 0 where
  pub flows : after.flows ≡ before.flows
  pub placed : after.placed ≡ before.placed
  pub candidates : after.candidates ≡ before.candidates
  pub count : after.count ≡ before.count

-- an open walk has moved on; an order that ended it is kept
pub record MovedOn (before after : Walk) : Type 0 where
  pub same : SameTables before after
  pub lower : before.level ≤ after.level
  pub stands : before.stage ≡ Open → standing after ≡ moving before
  pub kept_order : (bounds : List ℕ) → before.stage ≡ Order bounds → after.stage ≡ Order bounds
  pub was_order : (bounds : List ℕ) → after.stage ≡ Order bounds → before.stage ≡ Order bounds

-- flow f is put on the level to be filled
pub record Put (f : ℕ) (before after : Walk) : Type 0 where
  pub flows : after.flows ≡ before.flows
  pub level : after.level ≡ before.level
  pub sure : after.sure ≡ before.sure
  pub placed : after.placed ≡ slice_set before.placed (before.level - 1) f
  pub untried : masks after ≡ slice_set (masks before) (before.level - 1) (put (untried_of before) f false)
  pub slack : slacks after ≡ slacks before
  pub count : after.count ≡ min (before.count + 1) (2 ^ 64 - 1)
  pub stage : after.stage ≡ before.stage

-- times by flow that are those between floor and deadline, for every free flow
abbrev pub Row : Meaning → List Bool → List ℕ → Type 0
Row m free row = (f : ℕ) → has free f ≡ true → entry_of row f ≡ floor_slack m free f

-- a set that holds flows of the rule only
abbrev pub FlowsOnly : Meaning → List Bool → Type 0
FlowsOnly m free = (f : ℕ) → has free f ≡ true → is_flow m.flows f ≡ true

-- the flow by which a level is settled by ceiling, if it is
abbrev pub Settled : Meaning → Bool → List Bool → Option ℕ → Type 0
Settled m sure free r = FlowsOnly m free → r ≡ cond (settled_by_ceiling m sure free) (Some (by_ceiling m free)) None

-- the unplaced flows at the level to be filled
abbrev pub free_of : Walk → List Bool
free_of w = unplaced w.flows (filled w w.level)

-- the level to be filled is opened by asking the rule
pub record Entered (m : Meaning) (before after : Walk) : Type 0 where
  pub flows : after.flows ≡ before.flows
  pub level : after.level ≡ before.level
  pub placed : after.placed ≡ before.placed
  pub count : after.count ≡ before.count
  pub stage : after.stage ≡ before.stage
  pub below : drop before.level (masks after) ≡ drop before.level (masks before)
  pub rows : (i : ℕ) → before.level ≤ i → slice_index_or (slacks after) i [] ≡ slice_index_or (slacks before) i []
  pub row : before.flows ≡ m.flows → Row m (free_of before) (slice_index_or (slacks after) (before.level - 1) [])
  pub untried : before.flows ≡ m.flows → untried_of after ≡ candidates m before.sure (free_of before)
  pub sure : before.flows ≡ m.flows → after.sure ≡ settled_by_ceiling m before.sure (free_of before)

-- the flows on all levels, level 1 first
abbrev pub order_of : Walk → List ℕ
order_of w = take w.flows w.placed

-- the stage of a walk, and whether it is sure, after a test of its order: one that passes ends it, with its bounds
abbrev pub Passed : Meaning → Walk → Stage → Bool → Bool → Type 0
Passed m before stage sure true = stage ≡ Order (table (leading m [] (order_of before))).ticks
Passed m before stage sure false = (stage ≡ before.stage) × (sure ≡ false)

pub record Tested (m : Meaning) (before after : Walk) : Type 0 where
  pub flows : after.flows ≡ before.flows
  pub level : after.level ≡ before.level
  pub placed : after.placed ≡ before.placed
  pub candidates : after.candidates ≡ before.candidates
  pub count : after.count ≡ before.count
  pub passed : distinct m.flows (order_of before) ≡ true → Passed m before after.stage after.sure (passes m (order_of before))
