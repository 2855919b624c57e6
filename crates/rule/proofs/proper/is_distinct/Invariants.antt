-- What the loop of `is_distinct` keeps. Assumes nothing.
use Rattle.std.proofs.Common.{◌≡◌, length, take, drop}
use Rattle.rule.specs.Lists.{distinct}
use Rattle.rule.proofs.Distinct.{left_to_test, Seen}
use Rattle.rule.proofs.proper.is_distinct.Given as goal

abbrev pub invariant-loop-g : goal.invariant-loop-g
invariant-loop-g l =
    (distinct l.flows l.list ≡ left_to_test l.flows (take l.g-index l.list) (drop l.g-index l.list))
    × (length l.seen ≡ 256)
    × Seen l.seen (take l.g-index l.list)
