-- Why `FlowSet::has` meets its contract. Assumes nothing.
use Rattle.rule.specs.FlowSets.{marks_of}
use Rattle.rule.proofs.Digits.{digits_has}
use Rattle.rule.proofs.flow_set.FlowSet.has.Goals as goal

pub returns : goal.returns
unfolding marks_of
returns c = rw c.digit_of.ensures.value (digits_has 20 c.args.self.bits c.args.g c.args.self.small)
