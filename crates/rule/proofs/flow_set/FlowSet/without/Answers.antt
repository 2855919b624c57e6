-- Why `FlowSet::without` meets its contract. Assumes nothing.
use lib.Bits.{and_le_l}
use Rattle.rule.specs.FlowSets.{marks_of}
use Rattle.rule.proofs.Digits.{digits_without}
use Rattle.rule.proofs.flow_set.FlowSet.without.Goals as goal

pub overflow_sub-result : goal.overflow_sub-result
overflow_sub-result c = and_le_l _ _

pub returns : goal.returns
unfolding marks_of
returns c = rw c.digit_of.ensures.value (digits_without 20 c.args.self.bits c.args.g)
