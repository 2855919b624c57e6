-- What the calls from C answer, for every input. Assumes nothing.
--   fault_of         the number of a refusal, 0 if there is none
--   outcome_number   how a search stands, by its number
--   plan_told        the reply for a search after its placings
--   planned          the reply of the call that plans a sheet, by what reading the sheet answers
--   Planned          the promise of that call: its reply and its buffer
use Rattle.std.specs.Prelude.{◌≡◌, ℕ, cond, List, length, Ok, Err, Result, ◌==◌}
use Rattle.chip.specs.declared.refusal.Refusal.{Refusal}
use Rattle.chip.specs.Refusals.{number_of}
use Rattle.layout.specs.Reading.{Answer, accepted, refused, ReadExactly}
use Rattle.rule.specs.Meaning.{Meaning}
use Rattle.walk.specs.Walk.{State, after, count_of}
use Rattle.search.specs.declared.tables.Outcome.{Outcome}
use Rattle.search.specs.declared.tables.Outcome.TheVariants.{Open, Order, NoOrder}
use Rattle.search.specs.Answers.{outcome_of}
use Rattle.search.specs.Plans.{plan_reply, plan_after}
use Rattle.planner.specs.declared.replies.PlanReply.{PlanReply}
use Rattle.planner.specs.JobRules.{job_meaning}

-- the number of a refusal, 0 if there is none
abbrev pub fault_of : {X : Type 0} → Result X Refusal → ℕ
fault_of (Ok x) = 0
fault_of (Err e) = number_of e

-- the length told, 0 where there is none
abbrev pub length_of : Result ℕ Refusal → ℕ
length_of (Ok n) = n
length_of (Err e) = 0

-- how a search stands, by its number
abbrev pub outcome_number : Outcome → ℕ
outcome_number Open = 0
outcome_number Order = 1
outcome_number NoOrder = 2

-- a refusal with a number at a byte
abbrev pub plan_refused : ℕ → ℕ → PlanReply
plan_refused n byte = record { refusal = n; outcome = 0; byte = byte; length = 0; placings = 0 }

-- where the walk under a rule stands at s: the plan is written, or refused before the end or for want of room
abbrev pub plan_told : Meaning → State → ℕ → PlanReply
plan_told m s room =
    record { refusal = fault_of (plan_reply m s room); outcome = outcome_number (outcome_of s); byte = 0; length = length_of (plan_reply m s room); placings = count_of s }

-- the reply by what reading the sheet answers: a refused sheet, no placings allowed, or how the walk stands after them
abbrev pub planned : Answer → ℕ → ℕ → PlanReply
planned (refused n byte) placings room = plan_refused n byte
planned (accepted c) placings room = cond (placings == 0) (plan_refused 15 0) (plan_told (job_meaning c) (after (job_meaning c) placings) room)

-- the buffer afterwards: the plan at its front, if there is one that fits, and all as it was otherwise
abbrev pub plan_buffer : Answer → ℕ → List ℕ → List ℕ
plan_buffer (refused n byte) placings buffer = buffer
plan_buffer (accepted c) placings buffer = cond (placings == 0) buffer (plan_after (job_meaning c) (after (job_meaning c) placings) buffer)

-- the promise of the call that plans a sheet
pub record Planned (sheet : List ℕ) (placings : ℕ) (before later : List ℕ) (r : PlanReply) : Type 0 where
  -- what reading the sheet answers
  pub answer : Answer
  pub read : ReadExactly sheet answer
  pub reply : r ≡ planned answer placings (length before)
  pub buffer : later ≡ plan_buffer answer placings before
