-- What reading a sheet answers: the job whose layout the bytes are, or the first fault. Assumes nothing.
--   State          how far the input is read
--   Reads          sound fields lead from one state to another
--   FirstFault    the input's first faulty field, by its fault and its first byte
--   ReadExactly   what the reading call promises
use Rattle.std.specs.Prelude.{◌≡◌, ℕ, ◌+◌, ◌≤◌, ◌↔◌, List, ◌++◌, length, Ok, Err, Result}
use Rattle.chip.specs.Refusals.{number_of}
use Rattle.job.specs.declared.job.Job.{Job}
use Rattle.job.specs.Jobs.{Contents, contents}
use Rattle.layout.specs.declared.entry.Entry.{Entry}
use Rattle.layout.specs.declared.fault.Fault.{Fault}
use Rattle.layout.specs.Layout.{entry_bytes, layout}
use Rattle.layout.specs.Faults.{Part, blank, with_entry, head_fault, value_fault}

-- How far an input is read: what its fields said so far, the byte at which the reader stands, and the bytes from there.
pub record State : Type 0 where
  pub part : Part
  pub at : ℕ
  pub rest : List ℕ

-- nothing is read
abbrev pub start : List ℕ → State
start input = record { part = blank; at = 0; rest = input }

-- The next field is sound: its bytes come next, and neither its head nor what it says is at fault.
pub record Sound (s : State) (e : Entry) (t : State) : Type 0 where
  pub bytes : s.rest ≡ entry_bytes e ++ t.rest
  pub head : head_fault s.part.stage s.rest ≡ 0
  pub value : value_fault s.part e ≡ 0
  pub grown : t.part ≡ with_entry s.part e
  pub moved : t.at ≡ s.at + length (entry_bytes e)

-- sound fields, any number of them, lead from the first state to the second
pub data Reads : State → State → Type 0 where
  here : {s : State} → Reads s s
  next : {s u : State} (e : Entry) (t : State) → Sound s e t → Reads t u → Reads s u

-- what comes next has the fault n: in its head, or else in what it says
pub data Faulty : State → ℕ → Type 0 where
  in_head : {s : State} {n : ℕ} → head_fault s.part.stage s.rest ≡ n → Faulty s n
  in_value : {s : State} {n : ℕ} (e : Entry) (rest : List ℕ) → s.rest ≡ entry_bytes e ++ rest → head_fault s.part.stage s.rest ≡ 0 → value_fault s.part e ≡ n → Faulty s n

-- after sound fields, the reader stands at this byte before a fault of this number
pub record FirstFault (input : List ℕ) (n byte : ℕ) : Type 0 where
  pub state : State
  pub reached : Reads (start input) state
  pub fault : Faulty state n
  pub real : 1 ≤ n
  pub place : state.at ≡ byte

-- the answer: what the job holds, or the number of the refusal and the byte
pub data Answer : Type 0 where
  accepted : Contents → Answer
  refused : ℕ → ℕ → Answer

abbrev pub answer_of : Result Job Fault → Answer
answer_of (Ok j) = accepted (contents j)
answer_of (Err f) = refused (number_of f.refusal) f.byte

-- The promise of reading, for every input.
pub record ReadExactly (input : List ℕ) (answer : Answer) : Type 0 where
  -- a job is read exactly when the input is its layout
  pub job : (j : Job) → (input ≡ layout (contents j)) ↔ (answer ≡ accepted (contents j))
  -- the input is refused with a number and a byte exactly when its first fault is that one there
  pub fault : (n byte : ℕ) → FirstFault input n byte ↔ (answer ≡ refused n byte)
