-- What the loop of `PrecedenceRule::bounds` keeps. Assumes nothing.
use Rattle.std.proofs.Common.{◌≡◌, length, take}
use Rattle.rule.specs.FlowSets.{marks_of}
use Rattle.rule.specs.Lists.{marks}
use Rattle.rule.proofs.Told.{Telling}
use Rattle.precedence.specs.Held.{pairs_of}
use Rattle.precedence.specs.Pairs.{with_pairs}
use Rattle.precedence.proofs.precedence.PrecedenceRule.bounds.Given as goal

abbrev pub invariant-loop-f : goal.invariant-loop-f
invariant-loop-f g l =
    Telling (with_pairs (pairs_of l.self.pairs) (g.R.Rule.meaning l.self.rule)) l.list (length l.yielded) l.told
    × (marks_of l.above ≡ marks (take (length l.yielded) l.list))
