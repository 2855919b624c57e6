-- The promise of a run, for every rule that keeps the laws and every list of calls. Assumes nothing.
--   Made         what one call does
--   ToldLevel   the flow and the bound told at a level of an order
--   Promise      the promise, sentence by sentence
--   Ran          what a run leaves of the replies and of the plan's buffer
use Rattle.std.specs.Prelude.{◌≡◌, ℕ, ◌-◌, ◌^◌, ◌<◌, ◌≤◌, min, true, false, List, length, take, drop, Some, Ok, Option, slice_index}
use Rattle.rule.specs.Lists.{Order}
use Rattle.rule.specs.Meaning.{Meaning}
use Rattle.runs.specs.declared.calls.Call.{Call}
use Rattle.runs.specs.declared.calls.Call.TheVariants.{Advance}
use Rattle.runs.specs.declared.calls.Answer.TheVariants.{Advanced}
use Rattle.search.specs.declared.tables.Walk.{Walk}
use Rattle.search.specs.declared.tables.Outcome.TheVariants.{NoOrder}
use Rattle.walk.specs.Walk.{found, after, ended, count_of}
use Rattle.walk.specs.WalkLaw.{most_placings, NoOrderPasses}
use Rattle.search.specs.Tables.{standing}
use Rattle.search.specs.Searches.{Walked}
use Rattle.search.specs.Answers.{outcome_of, level_reply}
use Rattle.runs.specs.Runs.{Rival, Reply, reply_to, state_after, buffer_after, allowed, state_at, call_at, reply_at, buffer_at}

-- one call: its reply, and the walk and the buffer after it
pub record Made (m : Meaning) (other : Option Rival) (call : Call) (before after : Walk) (buffer written : List ℕ) (reply : Reply) : Type 0 where
  pub walked : Walked m before → Walked m after
  pub stands : Walked m before → standing after ≡ state_after m (standing before) call
  pub answers : Walked m before → reply ≡ reply_to m other (length buffer) (standing before) call
  pub writes : Walked m before → written ≡ buffer_after m (standing before) call buffer

-- the answer at level k of an order: its flow, with the rule's own bound under the flows above it, in time
pub record ToldLevel (m : Meaning) (count : ℕ) (order : List ℕ) (k : ℕ) : Type 0 where
  pub bound : ℕ
  pub told : level_reply m (found count order) k ≡ Ok (record { flow = slice_index order (k - 1); bound = bound })
  pub own : m.bound (slice_index order (k - 1)) (take (k - 1) order) ≡ Some bound
  pub timely : bound ≤ m.deadline (slice_index order (k - 1))

-- `state_at i` is the walk after as many placings as the accepted advances among the first i calls allow together,
-- or at its end if that comes sooner. Of the search after any number i of calls:
pub record Promise (m : Meaning) (other : Option Rival) (calls : List Call) (replies : List Reply) (room made : ℕ) (w : Walk) : Type 0 where
  -- each call is answered by where the walk stands before it
  pub answers : (i : ℕ) → i < made → reply_at replies i ≡ reply_to m other room (state_at m calls replies i) (call_at calls i)
  -- after the last call the search itself stands where the walk does
  pub follows : standing w ≡ state_at m calls replies made
  -- if the search has ended, it ended with "no order" exactly when no order of the flows passes
  pub none_exact : (i : ℕ) → ended (state_at m calls replies i) ≡ true → (outcome_of (state_at m calls replies i) ≡ NoOrder → NoOrderPasses m) × (NoOrderPasses m → outcome_of (state_at m calls replies i) ≡ NoOrder)
  -- if it ended with an order, each flow stands on exactly one level
  pub each_once : (i count : ℕ) (order : List ℕ) → state_at m calls replies i ≡ found count order → Order m.flows order
  -- and the bound told there is the rule's own for that flow under the flows above it, no later than its deadline
  pub levels : (i count : ℕ) (order : List ℕ) → state_at m calls replies i ≡ found count order → (k : ℕ) → 1 ≤ k → k ≤ m.flows → ToldLevel m count order k
  -- every advance of at least 1 given while open is accepted
  pub accepts : (i placings : ℕ) → i < made → ended (state_at m calls replies i) ≡ false → call_at calls i ≡ Advance placings → 1 ≤ placings → reply_at replies i ≡ Ok Advanced
  -- while open the count equals what the accepted advances allowed, added up; it is never more
  pub count_open : (i : ℕ) → ended (state_at m calls replies i) ≡ false → count_of (state_at m calls replies i) ≡ allowed (take i calls) (take i replies)
  pub count_most : (i : ℕ) → count_of (state_at m calls replies i) ≤ allowed (take i calls) (take i replies)
  -- the count tells where the walk stands, and stays below 2^63
  pub counted : (i : ℕ) → state_at m calls replies i ≡ after m (count_of (state_at m calls replies i))
  pub count_small : (i : ℕ) → count_of (state_at m calls replies i) < 2 ^ 63
  -- with n flows it has ended once they allow n + n (n - 1) + .. + n!, a sum of n terms
  pub ends : (i : ℕ) → most_placings m.flows ≤ allowed (take i calls) (take i replies) → ended (state_at m calls replies i) ≡ true

-- how many calls are made: those with room for their reply
abbrev pub made_of : List Call → List Reply → ℕ
made_of calls replies = min (length calls) (length replies)

-- replies past the calls made, and the buffer but for plans, stay
pub record Ran (m : Meaning) (calls : List Call) (before after : List Reply) (buffer written : List ℕ) : Type 0 where
  pub rest : drop (made_of calls before) after ≡ drop (made_of calls before) before
  pub plans : written ≡ buffer_at m calls after buffer (made_of calls before)
