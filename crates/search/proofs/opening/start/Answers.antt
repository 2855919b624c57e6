-- Why `start` meets its contract. Assumes nothing.
use Rattle.search.proofs.Advanced.{started}
use Rattle.search.proofs.opening.start.Goals as goal

pub returns : goal.returns
returns g c =
    started (g.R.Rule.meaning c.args.rule.now) (g.met.R.Rule.lawful c.args.rule.now) c.flows.result c.flows.ensures c.blank-w.result c.blank-w.ensures c.enter.new.self c.enter.ensures c.move_on.new.self c.move_on.ensures
