-- What each call on a search answers, by where its walk stands. Assumes nothing.
--   outcome_of       whether the search goes on, or how it ended
--   advance_reply    the reply to an advance
--   level_reply      the flow on a level and its bound
use Rattle.std.specs.Prelude.{ℕ, ◌-◌, cond, List, take, Ok, Err, Result, ◌==◌, slice_index}
use Rattle.chip.specs.declared.refusal.Refusal.{Refusal}
use Rattle.chip.specs.declared.refusal.Refusal.TheVariants.{AdvanceOfZero, AdvanceAfterEnd, NoOutcome, LevelOutside}
use Rattle.rule.specs.Lists.{is_flow}
use Rattle.rule.specs.Meaning.{Meaning}
use Rattle.search.specs.declared.searching.Level.{Level}
use Rattle.search.specs.declared.tables.Outcome.{Outcome}
use Rattle.search.specs.declared.tables.Outcome.TheVariants.{Open, Order, NoOrder}
use Rattle.search.specs.Candidates.{time_of}
use Rattle.walk.specs.Walk.{State, going, found, nothing, ended}

-- whether the search goes on, or how it ended
abbrev pub outcome_of : State → Outcome
outcome_of (going count sure untried below) = Open
outcome_of (found count order) = Order
outcome_of (nothing count) = NoOrder

-- an advance of nothing is refused, and then any once the search has ended
abbrev pub advance_reply : State → ℕ → Result (Unit {0}) Refusal
advance_reply s placings = cond (placings == 0) (Err AdvanceOfZero) (cond (ended s) (Err AdvanceAfterEnd) (Ok tt))

-- the flow on level k of an order, and its bound under the flows above it
abbrev pub level_at : Meaning → List ℕ → ℕ → Level
level_at m order k = record { flow = slice_index order (k - 1); bound = time_of (m.bound (slice_index order (k - 1)) (take (k - 1) order)) }

-- a level is refused without an order, and then outside 1 to the number of flows
abbrev pub level_reply : Meaning → State → ℕ → Result Level Refusal
level_reply m (going count sure untried below) k = Err NoOutcome
level_reply m (found count order) k = cond (is_flow m.flows k) (Ok (level_at m order k)) (Err LevelOutside)
level_reply m (nothing count) k = Err NoOutcome
