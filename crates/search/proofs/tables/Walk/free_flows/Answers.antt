-- Why `Walk::free_flows` meets its contract. Assumes nothing.
use Rattle.std.proofs.Common.{ap₂, ◌∙◌}
use Rattle.rule.specs.FlowSets.{less}
use Rattle.search.proofs.Opened.{free_told}
use Rattle.search.proofs.tables.Walk.free_flows.Goals as goal

pub returns : goal.returns
returns c = c.less.ensures ∙ ap₂ less c.first.ensures c.of.ensures ∙ free_told c.args.self.now
