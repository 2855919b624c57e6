-- The fault of the next field of a sheet, by its number; 0 is none. Assumes nothing.
--   Part            what the fields so far say
--   allows          which tags may come at each stage
--   head_fault      the fault of a field's tag, length and extent
--   value_fault     the fault of what a field says
use Rattle.std.specs.Prelude.{ℕ, ◌+◌, ◌*◌, Bool, false, cond, not, ◌||◌, List, [], ◌∷◌, ◌++◌, length, is_some, Some, None, Option, ◌==◌, nat_lt, slice_index}
use Rattle.chip.specs.declared.parameters.FlowParameters.{FlowParameters}
use Rattle.chip.specs.Flows.{flow_fault}
use Rattle.chip.specs.Reserves.{reserve_fault}
use Rattle.sheet.specs.declared.letter.Letter.{Letter}
use Rattle.sheet.specs.declared.pair.Pair.{Pair}
use Rattle.sheet.specs.Flows.{add_fault}
use Rattle.sheet.specs.Letters.{letter_named}
use Rattle.sheet.specs.Pairs.{pair_fault}
use Rattle.layout.specs.declared.entry.Entry.{Entry}
use Rattle.layout.specs.declared.entry.Entry.TheVariants as entry
use Rattle.layout.specs.declared.entry.Stage.{Stage}
use Rattle.layout.specs.declared.entry.Stage.TheVariants.{Rule, FirstFlow, Flows, Pairs, Done}

-- What the fields so far say.
pub record Part : Type 0 where
  pub stage : Stage
  pub letter : Option Letter
  pub flows : List FlowParameters
  pub reserve : Option ℕ
  pub pairs : List Pair

-- nothing is read yet
abbrev pub blank : Part
blank = record { stage = Rule; letter = None; flows = []; reserve = None; pairs = [] }

-- what is said with one field more
abbrev pub with_entry : Part → Entry → Part
with_entry part (entry.Rule letter) = record { stage = FirstFlow; letter = letter_named letter; flows = part.flows; reserve = part.reserve; pairs = part.pairs }
with_entry part (entry.Flow p) = record { stage = Flows; letter = part.letter; flows = part.flows ++ p ∷ []; reserve = part.reserve; pairs = part.pairs }
with_entry part (entry.Reserve ticks) = record { stage = Pairs; letter = part.letter; flows = part.flows; reserve = Some ticks; pairs = part.pairs }
with_entry part (entry.Pair q) = record { stage = Pairs; letter = part.letter; flows = part.flows; reserve = part.reserve; pairs = part.pairs ++ q ∷ [] }
with_entry part entry.End = record { stage = Done; letter = part.letter; flows = part.flows; reserve = part.reserve; pairs = part.pairs }

-- the tags that may come next: the rule, then one flow or more, then at most one reserve, then pairs, then the end
abbrev pub allows : Stage → ℕ → Bool
allows Rule tag = tag == 0x01
allows FirstFlow tag = tag == 0x02
allows Flows tag = tag == 0x02 || tag == 0x03 || tag == 0x04 || tag == 0x05
allows Pairs tag = tag == 0x04 || tag == 0x05
allows Done tag = false

-- the length of the value of a field with this tag
abbrev pub length_for : ℕ → ℕ
length_for tag = cond (tag == 0x01) 1 (cond (tag == 0x02) 22 (cond (tag == 0x05) 0 4))

-- the length that a field tells, in its second and third byte
abbrev pub told_length : List ℕ → ℕ
told_length rest = slice_index rest 1 * 256 + slice_index rest 2

-- Where a field has to come: the input ends in its head (1), its tag is unknown or out of order (2), its length is
-- wrong for the tag (3), the input ends in its value (1).
abbrev pub open_fault : Stage → List ℕ → ℕ
open_fault stage rest =
    cond (nat_lt (length rest) 3) 1
    (cond (not (allows stage (slice_index rest 0))) 2
    (cond (not (told_length rest == length_for (slice_index rest 0))) 3
    (cond (nat_lt (length rest) (3 + told_length rest)) 1 0)))

-- The fault of what is left of the input: after the end field, any byte (13); before it, that of the next field's head.
abbrev pub head_fault : Stage → List ℕ → ℕ
head_fault Rule rest = open_fault Rule rest
head_fault FirstFlow rest = open_fault FirstFlow rest
head_fault Flows rest = open_fault Flows rest
head_fault Pairs rest = open_fault Pairs rest
head_fault Done [] = 0
head_fault Done (byte ∷ rest) = 13

-- the first fault, and if it is none the second
abbrev pub or_else : ℕ → ℕ → ℕ
or_else first second = cond (first == 0) second first

-- The fault of what a field says, beside what was said before it: the letter (4); a flow's times (5), endpoints (6)
-- and label (7), a label that is taken (8), a 21st flow (9); the reserve (10); a pair (11), a 17th pair (12).
abbrev pub value_fault : Part → Entry → ℕ
value_fault part (entry.Rule letter) = cond (is_some (letter_named letter)) 0 4
value_fault part (entry.Flow p) = or_else (flow_fault p) (add_fault part.flows p)
value_fault part (entry.Reserve ticks) = reserve_fault ticks
value_fault part (entry.Pair q) = pair_fault part.flows part.pairs q
value_fault part entry.End = 0
