-- Why `Pairs::none` meets its contract. Assumes nothing.
use Rattle.precedence.proofs.Paired.{later_sets_none}
use Rattle.precedence.proofs.pairs.Pairs.none.Goals as goal

pub invariant_of-result-clause-agree : goal.invariant_of-result-clause-agree
invariant_of-result-clause-agree c = rw c.empty.ensures (later_sets_none 20 1 c.none-none.result c.none-none.ensures)
