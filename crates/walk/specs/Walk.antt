-- The walk that looks for an order that passes, over the meaning of a rule. Assumes nothing.
--   Frame, State      a level that is filled, and where the walk stands
--   unplaced          the flows not placed yet
--   candidates        the flows that may be placed on a level
--   settle            the walk backs up over levels with no candidate left
--   enter             the walk enters a level
--   place, step       a placing, and what follows it
--   after             the state of the walk after so many placings
--   ended, count_of   whether the walk has ended, and how many placings were made
use Rattle.std.specs.Prelude.{ℕ, zero, suc, Bool, true, false, cond, not, ◌&&◌, List, [], ◌∷◌, length, is_some, Option, ◌==◌}
use Rattle.rule.specs.FlowSets.{put, first_flows, less, empty}
use Rattle.rule.specs.Lists.{marks}
use Rattle.rule.specs.Meaning.{Meaning, leading}
use Rattle.walk.specs.Choice.{keep, slack, choice}

-- A level that is filled: the flow placed on it, and its candidates not tried yet.
pub record Frame : Type 0 where
  pub flow : ℕ
  pub untried : List Bool

-- Where the walk stands, after so many placings: going on to the next placing, ended with an order, level 1 first,
-- or ended without one. `sure` says that the level to be filled and every lower one is settled by ceiling,
-- `untried` has the candidates of that level, and `below` has the lower levels, the nearest first.
pub data State : Type 0 where
  going : (count : ℕ) (sure : Bool) (untried : List Bool) (below : List Frame) → State
  found : (count : ℕ) (order : List ℕ) → State
  nothing : (count : ℕ) → State

-- the flows on the levels below, the nearest first
abbrev pub placed : List Frame → List ℕ
placed [] = []
placed (f ∷ fs) = f.flow ∷ placed fs

-- the flows of 1 to n that are in no list of placed ones
unfoldable pub unplaced : ℕ → List ℕ → List Bool
unplaced n list = less (first_flows n) (marks list)

-- the floor and the ceiling of flow f under all other unplaced flows
abbrev pub floor_at : Meaning → List Bool → ℕ → Option ℕ
floor_at m free f = m.floor f (put free f false)

abbrev pub ceiling_at : Meaning → List Bool → ℕ → Option ℕ
ceiling_at m free f = m.ceiling f (put free f false)

-- the time between that floor, or ceiling, and the deadline
abbrev pub floor_slack : Meaning → List Bool → ℕ → ℕ
floor_slack m free f = slack (m.deadline f) (floor_at m free f)

abbrev pub ceiling_slack : Meaning → List Bool → ℕ → ℕ
ceiling_slack m free f = slack (m.deadline f) (ceiling_at m free f)

-- the unplaced flows with a floor, and those with a ceiling
abbrev pub with_floor : Meaning → List Bool → List Bool
with_floor m free = keep (λ f. is_some (floor_at m free f)) free

abbrev pub with_ceiling : Meaning → List Bool → List Bool
with_ceiling m free = keep (λ f. is_some (ceiling_at m free f)) free

-- a level is settled by ceiling if every lower one is, and some unplaced flow has a ceiling
abbrev pub settled_by_ceiling : Meaning → Bool → List Bool → Bool
settled_by_ceiling m sure free = sure && not (empty (with_ceiling m free))

-- the flow with a ceiling that has the most time between ceiling and deadline
abbrev pub by_ceiling : Meaning → List Bool → ℕ
by_ceiling m free = choice (ceiling_slack m free) (with_ceiling m free)

-- the candidates of a level: that flow alone if the level is settled by ceiling, else all flows with a floor
unfoldable pub candidates : Meaning → Bool → List Bool → List Bool
candidates m sure free = cond (settled_by_ceiling m sure free) (marks (by_ceiling m free ∷ [])) (with_floor m free)

-- the walk moves on to the next placing: a level with no candidate left backs it up one level, whose flow is
-- unplaced; a level with an untried candidate below was not settled by ceiling
abbrev pub settle : ℕ → Bool → List Bool → List Frame → State
settle count sure untried [] = cond (empty untried) (nothing count) (going count sure untried [])
settle count sure untried (f ∷ fs) = cond (empty untried) (settle count false f.untried fs) (going count sure untried (f ∷ fs))

-- the walk enters the level above those below, and moves on
unfoldable pub enter : Meaning → ℕ → Bool → List Frame → State
enter m count sure below =
    let free = unplaced m.flows (placed below) in
    settle count (settled_by_ceiling m sure free) (candidates m sure free) below

-- the flow to be placed next: the untried candidate with the largest time between floor and deadline
unfoldable pub next : Meaning → List Bool → List Frame → ℕ
next m untried below = choice (floor_slack m (unplaced m.flows (placed below))) untried

-- whether every flow of an order has a bound under those above it
unfoldable pub passes : Meaning → List ℕ → Bool
passes m order = length (leading m [] order) == length order

-- Flow f is placed. If it is on level 1, the order is tested, and ends the walk or has f unplaced again; otherwise
-- the walk enters the next level.
unfoldable pub place : Meaning → ℕ → Bool → List Bool → List Frame → ℕ → State
place m count sure untried below f =
    cond (suc (length below) == m.flows)
    (cond (passes m (f ∷ placed below)) (found count (f ∷ placed below)) (settle count false (put untried f false) below))
    (enter m count sure (record { flow = f; untried = put untried f false } ∷ below))

-- one placing more; an ended walk stays as it is
abbrev pub step : Meaning → State → State
step m (going count sure untried below) = place m (suc count) sure untried below (next m untried below)
step m (found count order) = found count order
step m (nothing count) = nothing count

-- k placings more
abbrev pub steps : Meaning → ℕ → State → State
steps m zero s = s
steps m (suc k) s = step m (steps m k s)

-- the walk after k placings, or at its end if that comes sooner
unfoldable pub after : Meaning → ℕ → State
after m k = steps m k (enter m 0 true [])

-- whether the walk has ended
abbrev pub ended : State → Bool
ended (going count sure untried below) = false
ended (found count order) = true
ended (nothing count) = true

-- how many placings were made
abbrev pub count_of : State → ℕ
count_of (going count sure untried below) = count
count_of (found count order) = count
count_of (nothing count) = count
