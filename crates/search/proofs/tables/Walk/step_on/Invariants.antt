-- What the loop of `Walk::step_on` keeps. Assumes nothing.
use Rattle.search.specs.Searches.{SteppedOn}
use Rattle.search.proofs.tables.Walk.step_on.Given as goal

abbrev pub invariant-loop : goal.invariant-loop
invariant-loop g l = SteppedOn (g.R.Rule.meaning l.rule) l.counter l.initial.self l.self
