-- How the reading calls hand on what was read. Assumes nothing.
--   part_of      what the fields so far say, where they make these contents
--   Underway     sound fields lead to these contents, and a field with a sound head was passed over after them
--   Refuses      sound fields lead to a fault
--   AnswersAt    what a call answers for one field
use Rattle.std.specs.Prelude.{◌≡◌, ℕ, true, false, List, [], ◌∷◌, ◌++◌, Some, None, Ok, Err, Result, ◌==◌}
use Rattle.chip.specs.declared.parameters.FlowParameters.{FlowParameters}
use Rattle.chip.specs.declared.refusal.Refusal.{Refusal}
use Rattle.chip.specs.Flows.{flow_fault}
use Rattle.chip.specs.Refusals.{number_of}
use Rattle.sheet.specs.declared.letter.Letter.{Letter}
use Rattle.sheet.specs.declared.pair.Pair.{Pair}
use Rattle.sheet.specs.Flows.{add_fault}
use Rattle.sheet.specs.Pairs.{pair_fault}
use Rattle.job.specs.Jobs.{Contents}
use Rattle.layout.specs.declared.entry.Entry.{Entry}
use Rattle.layout.specs.declared.entry.Stage.{Stage}
use Rattle.layout.specs.declared.entry.Stage.TheVariants.{FirstFlow, Flows, Pairs, Done}
use Rattle.layout.specs.declared.fault.Fault.{Fault}
use Rattle.layout.specs.Cursor.{Peeked, Cursor}
use Rattle.layout.specs.Faults.{Part, allows, or_else}
use Rattle.layout.specs.Layout.{tag_of}
use Rattle.layout.specs.Reading.{State, Reads, Faulty}

-- these fields are read, and the reader stands here
abbrev pub standing : Part → Cursor → State
standing part here = record { part = part; at = here.at; rest = here.left }

-- the rule field alone
abbrev pub ruled : Letter → Part
ruled letter = record { stage = FirstFlow; letter = Some letter; flows = []; reserve = None; pairs = [] }

-- the fields of these contents, at a stage
abbrev pub part_of : Stage → Contents → Part
part_of stage c = record { stage = stage; letter = Some c.letter; flows = c.flows; reserve = c.reserve; pairs = c.pairs }

-- the contents of a rule and flows alone
abbrev pub flows_alone : Letter → List FlowParameters → Contents
flows_alone letter ps = record { letter = letter; flows = ps; reserve = None; pairs = [] }

-- from a state, sound fields lead to a fault, told with its byte
pub record Refuses (from : State) (f : Fault) : Type 0 where
  pub state : State
  pub reached : Reads from state
  pub fault : Faulty state (number_of f.refusal)
  pub place : state.at ≡ f.byte

-- from a state, sound fields lead to the end of the input, and make these contents
abbrev pub Ends : State → Contents → Type 0
Ends from c = (n : ℕ) × Reads from (record { part = part_of Done c; at = n; rest = [] })

-- from a state, sound fields lead to these contents, and the reader passed over the field e, with a sound head, to here
pub record Underway (from : State) (here : Cursor) (c : Contents) (e : Entry) : Type 0 where
  pub stage : Stage
  pub before : Cursor
  pub reached : Reads from (standing (part_of stage c) before)
  pub peeked : Peeked stage before here e

-- a field that may come once the flows are read, and is none itself: the reserve, a pair or the end
abbrev pub Wish : Entry → Type 0
Wish e = (allows Flows (tag_of e) ≡ true) × ((tag_of e == 0x02) ≡ false)

-- a field that may come once the reserve is read: a pair or the end
abbrev pub LastWish : Entry → Type 0
LastWish e = allows Pairs (tag_of e) ≡ true

-- the fault of one more flow beside these
abbrev pub flow_told : List FlowParameters → FlowParameters → ℕ
flow_told ps p = or_else (flow_fault p) (add_fault ps p)

-- the fault of one more pair beside these contents
abbrev pub pair_told : Contents → Pair → ℕ
pair_told c q = pair_fault c.flows c.pairs q

-- the contents with one more pair
abbrev pub with_last : Pair → Contents → Contents
with_last q c = record { letter = c.letter; flows = c.flows; reserve = c.reserve; pairs = c.pairs ++ q ∷ [] }

-- a call that is accepted if its fault is 0, and then makes this, or is refused for its fault, told at this byte
abbrev pub AnswersAt : {X : Type 0} → ℕ → Result X Fault → ℕ → (X → Type 0) → Type 0
AnswersAt byte (Ok x) fault made = (fault ≡ 0) × made x
AnswersAt byte (Err f) fault made = (number_of f.refusal ≡ fault) × (f.byte ≡ byte)

-- a refusal, told at a byte
abbrev pub placed : {X : Type 0} → ℕ → Result X Refusal → Result X Fault
placed byte (Ok x) = Ok x
placed byte (Err e) = Err (record { refusal = e; byte = byte })
