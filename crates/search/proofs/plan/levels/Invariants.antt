-- What the loop of `levels` keeps. Assumes nothing.
use Rattle.std.proofs.Common.{◌≡◌}
use Rattle.search.specs.Plans.{levels_told}
use Rattle.search.proofs.plan.levels.Given as goal

abbrev pub invariant-loop-i : goal.invariant-loop-i
invariant-loop-i g l = l.plan.items ≡ levels_told (g.R.Rule.meaning l.rule) l.order l.bounds l.i
