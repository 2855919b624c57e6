-- Why `Walk::step_on` meets its contract. Assumes nothing.
use Rattle.std.proofs.Common.{arith}
use Rattle.search.proofs.Advanced.{stepped_more, stepped_ended}
use Rattle.search.proofs.tables.Walk.step_on.Goals as goal

pub returns-in_default : goal.returns-in_default
returns-in_default g c =
    stepped_ended (g.R.Rule.meaning c.args.rule.now) c.loop.counter c.args.self.now c.loop.self c.loop.invariant c.args.placings (omega arith) c.in_default.not-Open

pub loop-preserved : goal.loop-preserved
loop-preserved g c =
    stepped_more (g.R.Rule.meaning c.args.rule.now) c.loop.counter c.args.self.now c.loop.self c.loop.invariant c.step.new.self c.step.ensures
