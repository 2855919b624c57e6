-- Why `FlowSet::is_empty` meets its contract. Assumes nothing.
use Rattle.rule.specs.FlowSets.{marks_of}
use Rattle.rule.proofs.Digits.{digits_empty}
use Rattle.rule.proofs.flow_set.FlowSet.is_empty.Goals as goal

pub returns : goal.returns
unfolding marks_of
returns c = digits_empty 20 c.args.self.bits c.args.self.small
