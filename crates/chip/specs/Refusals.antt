-- The number of each cause of refusal. Assumes nothing.
use Rattle.std.specs.Prelude.{ℕ}
use Rattle.chip.specs.declared.refusal.Refusal.{Refusal}
use Rattle.chip.specs.declared.refusal.Refusal.TheVariants.{Truncated, Tag, Length, RuleLetter, Times, Endpoints, LabelZero, LabelTaken, TooManyFlows, ReserveTooLarge, PairUnknown, TooManyPairs, TrailingBytes, ShortBuffer, AdvanceOfZero, AdvanceAfterEnd, NoOutcome, LevelOutside, ImproperQuestion}

abbrev pub number_of : Refusal → ℕ
number_of Truncated = 1
number_of Tag = 2
number_of Length = 3
number_of RuleLetter = 4
number_of Times = 5
number_of Endpoints = 6
number_of LabelZero = 7
number_of LabelTaken = 8
number_of TooManyFlows = 9
number_of ReserveTooLarge = 10
number_of PairUnknown = 11
number_of TooManyPairs = 12
number_of TrailingBytes = 13
number_of ShortBuffer = 14
number_of AdvanceOfZero = 15
number_of AdvanceAfterEnd = 16
number_of NoOutcome = 17
number_of LevelOutside = 18
number_of ImproperQuestion = 19
