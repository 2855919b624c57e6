-- The rule letters and their characters. Assumes nothing.
use Rattle.std.specs.Prelude.{ℕ, cond, Some, None, Option, ◌==◌}
use Rattle.sheet.specs.declared.letter.Letter.{Letter}
use Rattle.sheet.specs.declared.letter.Letter.TheVariants.{D, J, L}

-- the character of each letter
abbrev pub letter_code : Letter → ℕ
letter_code D = 68
letter_code J = 74
letter_code L = 76

-- the letter of a character, if it is one of the three
abbrev pub letter_named : ℕ → Option Letter
letter_named c = cond (c == 68) (Some D) (cond (c == 74) (Some J) (cond (c == 76) (Some L) None))
