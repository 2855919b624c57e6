-- Why `FlowSet::size` meets its contract. Assumes nothing.
use Rattle.rule.specs.FlowSets.{marks_of}
use Rattle.rule.proofs.Digits.{digits_size}
use Rattle.rule.proofs.flow_set.FlowSet.size.Goals as goal

pub returns : goal.returns
unfolding marks_of
returns c = digits_size 20 c.args.self.bits c.args.self.small
