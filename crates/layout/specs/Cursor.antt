-- Where a reader stands, what it passes over, and what a page is given. Assumes nothing.
--   Cursor     where it stands
--   Took       these bytes came next, and the cursor moved past them
--   Put        these bytes were laid out last
--   Peeked     this field came next, its head is sound, and the cursor moved past it
--   Misheaded  no field with a sound head comes next
use Rattle.std.specs.Prelude.{◌≡◌, ℕ, ◌+◌, ◌≤◌, List, ◌∷◌, ◌++◌, length}
use Rattle.chip.specs.Refusals.{number_of}
use Rattle.layout.specs.declared.entry.Entry.{Entry}
use Rattle.layout.specs.declared.entry.Stage.{Stage}
use Rattle.layout.specs.declared.entry.Tag.{Tag}
use Rattle.layout.specs.declared.fault.Fault.{Fault}
use Rattle.layout.specs.Layout.{be16, entry_bytes}
use Rattle.layout.specs.Faults.{length_for, open_fault}
use Rattle.layout.specs.Tags.{tag_number}

-- the bytes that are left, the number of the first of them, and that of the first byte of the field that is being read
pub record Cursor : Type 0 where
  pub left : List ℕ
  pub at : ℕ
  pub field : ℕ

-- a field begins where the reader stands
abbrev pub begun : Cursor → Cursor
begun c = record { left = c.left; at = c.at; field = c.at }

-- these bytes came next, and the same field is being read
pub record Took (before after : Cursor) (taken : List ℕ) : Type 0 where
  pub next : before.left ≡ taken ++ after.left
  pub moved : after.at ≡ before.at + length taken
  pub field : after.field ≡ before.field

-- these bytes were put behind those that were laid out, n of them before and m after
pub record Put (before : List ℕ) (n : ℕ) (after : List ℕ) (m : ℕ) (bytes : List ℕ) : Type 0 where
  pub laid : after ≡ before ++ bytes
  pub count : m ≡ n + length bytes

-- a sound head with this tag was passed over, and its value is whole
pub record Headed (stage : Stage) (before after : Cursor) (tag : Tag) : Type 0 where
  pub sound : open_fault stage before.left ≡ 0
  pub head : Took (begun before) after (tag_number tag ∷ be16 (length_for (tag_number tag)))
  pub room : length_for (tag_number tag) ≤ length after.left

-- the field e was passed over, and its head is sound at this stage
pub record Peeked (stage : Stage) (before after : Cursor) (e : Entry) : Type 0 where
  pub sound : open_fault stage before.left ≡ 0
  pub field : Took (begun before) after (entry_bytes e)

-- the head of what comes next is at fault, told with the byte where it begins
abbrev pub Misheaded : Stage → Cursor → Fault → Type 0
Misheaded stage before f = (number_of f.refusal ≡ open_fault stage before.left) × (f.byte ≡ before.at)
