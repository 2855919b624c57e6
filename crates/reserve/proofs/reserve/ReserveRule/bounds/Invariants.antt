-- What the loop of `ReserveRule::bounds` keeps. Assumes nothing.
use Rattle.std.proofs.Common.{length}
use Rattle.rule.proofs.Told.{Telling}
use Rattle.reserve.specs.Reserves.{with_reserve}
use Rattle.reserve.proofs.reserve.ReserveRule.bounds.Given as goal

abbrev pub invariant-loop-f : goal.invariant-loop-f
invariant-loop-f g l = Telling (with_reserve l.self.ticks.count (g.R.Rule.meaning l.self.rule)) l.list (length l.yielded) l.told
