-- What the loop of `Rule::bounds` keeps. Assumes nothing.
use Rattle.rule.proofs.Told.{Telling}
use Rattle.rule.proofs.questions.Rule.bounds.Given as goal

abbrev pub invariant-loop-i : goal.invariant-loop-i
invariant-loop-i g l = Telling (g.Self.Rule.meaning l.self) l.list l.i l.told
