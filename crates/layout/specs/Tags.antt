-- The kinds of field and their numbers. Assumes nothing.
use Rattle.std.specs.Prelude.{◌≡◌, ℕ, Result, MatchResult}
use Rattle.chip.specs.declared.refusal.Refusal.{Refusal}
use Rattle.chip.specs.declared.refusal.Refusal.TheVariants as refusal
use Rattle.layout.specs.declared.entry.Tag.{Tag}
use Rattle.layout.specs.declared.entry.Tag.TheVariants.{Rule, Flow, Reserve, Pair, End}

-- the number of each kind
abbrev pub tag_number : Tag → ℕ
tag_number Rule = 0x01
tag_number Flow = 0x02
tag_number Reserve = 0x03
tag_number Pair = 0x04
tag_number End = 0x05

-- a number is read as the kind that has it, and refused if none has it
abbrev pub Decodes : ℕ → Result Tag Refusal → Type 0
Decodes n outcome = MatchResult outcome (λ tag. tag_number tag ≡ n) (λ e. (e ≡ refusal.Tag) × ((tag : Tag) → tag_number tag ≡ n → ⊥))
