-- A run of calls on a search: what each is answered, and where the walk stands then. Assumes nothing.
--   Rival             another search, to compare plans with
--   Reply, reply_to   the reply to a call, by where the walk stands
--   state_after, buffer_after    the walk and the plan's buffer after a call
--   allowed           the placings that accepted advances allow together
--   state_at, buffer_at          the walk and the buffer before a call of the run
use Rattle.std.specs.Prelude.{ℕ, zero, suc, ◌+◌, Bool, List, [], ◌∷◌, take, Some, None, Ok, Err, Option, Result, slice_index_or}
use Rattle.chip.specs.declared.refusal.Refusal.{Refusal}
use Rattle.chip.specs.declared.refusal.Refusal.TheVariants.{NoOutcome}
use Rattle.rule.specs.Meaning.{Meaning}
use Rattle.runs.specs.declared.calls.Call.{Call}
use Rattle.runs.specs.declared.calls.Call.TheVariants as C
use Rattle.runs.specs.declared.calls.Answer.{Answer}
use Rattle.runs.specs.declared.calls.Answer.TheVariants as A
use Rattle.search.specs.declared.searching.Search.{Search}
use Rattle.walk.specs.Walk.{State, steps, after, count_of}
use Rattle.search.specs.Answers.{outcome_of, advance_reply, level_reply}
use Rattle.search.specs.Plans.{plan_reply, plan_after, same_reply}
use Rattle.search.specs.Tables.{standing}

-- the reply to a call: what it answers, or why it is refused
abbrev pub Reply : Type 0
Reply = Result Answer Refusal

-- the reply that tells what is answered
abbrev pub replied : {T : Type 0} → (T → Answer) → Result T Refusal → Reply
replied answer (Ok told) = Ok (answer told)
replied answer (Err e) = Err e

-- another search: what its rule means, and where its walk stands
pub record Rival : Type 0 where
  pub meaning : Meaning
  pub state : State

-- a search as the other one, by the meaning of rules of its kind
abbrev pub rival_of : {Q : Type 0} → (Q → Meaning) → Option (Search Q) → Option Rival
rival_of meaning None = None
rival_of meaning (Some s) = Some (record { meaning = meaning s.rule; state = standing s.walk })

-- whether the plan is that of the other search; without another search there is no plan to compare with
abbrev pub rival_reply : Meaning → State → Option Rival → Result Bool Refusal
rival_reply m s None = Err NoOutcome
rival_reply m s (Some other) = same_reply m s other.meaning other.state

-- the reply to a call where the walk stands at s, beside another search or none and a buffer with so much room
abbrev pub reply_to : Meaning → Option Rival → ℕ → State → Call → Reply
reply_to m other room s (C.Advance placings) = replied (λ done. A.Advanced) (advance_reply s placings)
reply_to m other room s C.Outcome = Ok (A.Outcome (outcome_of s))
reply_to m other room s C.Count = Ok (A.Count (count_of s))
reply_to m other room s (C.Level k) = replied A.Level (level_reply m s k)
reply_to m other room s C.Plan = replied A.Plan (plan_reply m s room)
reply_to m other room s C.Same = replied A.Same (rival_reply m s other)

-- the walk after a call: an advance makes its placings, and nothing else changes it
abbrev pub state_after : Meaning → State → Call → State
state_after m s (C.Advance placings) = steps m placings s
state_after m s C.Outcome = s
state_after m s C.Count = s
state_after m s (C.Level k) = s
state_after m s C.Plan = s
state_after m s C.Same = s

-- the plan's buffer after a call
abbrev pub buffer_after : Meaning → State → Call → List ℕ → List ℕ
buffer_after m s (C.Advance placings) buffer = buffer
buffer_after m s C.Outcome buffer = buffer
buffer_after m s C.Count buffer = buffer
buffer_after m s (C.Level k) buffer = buffer
buffer_after m s C.Plan buffer = plan_after m s buffer
buffer_after m s C.Same buffer = buffer

-- the placings that a call allows, by the reply to it
abbrev pub placings_of : Call → ℕ
placings_of (C.Advance placings) = placings
placings_of C.Outcome = 0
placings_of C.Count = 0
placings_of (C.Level k) = 0
placings_of C.Plan = 0
placings_of C.Same = 0

abbrev pub accepted : Reply → ℕ → ℕ
accepted (Ok A.Advanced) placings = placings
accepted (Ok (A.Outcome o)) placings = 0
accepted (Ok (A.Count n)) placings = 0
accepted (Ok (A.Level l)) placings = 0
accepted (Ok (A.Plan n)) placings = 0
accepted (Ok (A.Same b)) placings = 0
accepted (Err e) placings = 0

-- the placings that the accepted advances among calls allow together
abbrev pub allowed : List Call → List Reply → ℕ
allowed [] replies = 0
allowed (c ∷ cs) [] = 0
allowed (c ∷ cs) (r ∷ rs) = accepted r (placings_of c) + allowed cs rs

-- the walk before call i of a run, and after the last of i calls
abbrev pub state_at : Meaning → List Call → List Reply → ℕ → State
state_at m calls replies i = after m (allowed (take i calls) (take i replies))

-- call i, and the reply to it
abbrev pub call_at : List Call → ℕ → Call
call_at calls i = slice_index_or calls i (C.Advance 0)

abbrev pub reply_at : List Reply → ℕ → Reply
reply_at replies i = slice_index_or replies i (Ok A.Advanced)

-- the plan's buffer before call i of a run
abbrev pub buffer_at : Meaning → List Call → List Reply → List ℕ → ℕ → List ℕ
buffer_at m calls replies buffer zero = buffer
buffer_at m calls replies buffer (suc i) = buffer_after m (state_at m calls replies i) (call_at calls i) (buffer_at m calls replies buffer i)
