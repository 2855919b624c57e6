-- What `==` computes of letters and pairs decides equality, and of sheets whether they hold the same. Assumes nothing.
use Rattle.std.specs.Bool.{one_answer}
use Rattle.std.proofs.Common.{◌≡◌, Decides, rules}
use Rattle.sheet.specs.declared.letter.Letter.{Letter}
use Rattle.sheet.specs.declared.pair.Pair.{Pair}
use Rattle.sheet.specs.declared.sheet.Sheet.{Sheet}
use Rattle.sheet.specs.contracts.letter.LetterPartialEq.TheImpl as letter
use Rattle.sheet.specs.contracts.pair.PairPartialEq.TheImpl as pair
use Rattle.sheet.specs.contracts.sheet.SheetPartialEq.TheImpl as sheet
use Rattle.sheet.specs.PairEquality.{pair_eq}
use Rattle.sheet.specs.Sheets.{flows_of}
use Rattle.sheet.proofs.Listed.{flows_decide}

pub letter_decides : (a b : Letter) → Decides ((letter.ghosts).eq a b) (a ≡ b)
letter_decides a b = search rules

pub pair_decides : (a b : Pair) → Decides ((pair.ghosts).eq a b) (a ≡ b)
pair_decides a b = search rules

-- so does the test that is written down
pub pair_eq_decides : (a b : Pair) → Decides (pair_eq a b) (a ≡ b)
pair_eq_decides a b = search rules

-- and it is what `==` computes
pub pair_computes : (a b : Pair) → (pair.ghosts).eq a b ≡ pair_eq a b
pair_computes a b = one_answer _ _ (pair_decides a b) (pair_eq_decides a b)

pub sheet_decides : (a b : Sheet) → Decides ((sheet.ghosts).eq a b) (flows_of a ≡ flows_of b)
sheet_decides a b = flows_decide a.flows.items b.flows.items
