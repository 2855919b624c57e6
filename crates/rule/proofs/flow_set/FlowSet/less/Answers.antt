-- Why `FlowSet::less` meets its contract. Assumes nothing.
use lib.Bits.{and_le_l}
use Rattle.rule.specs.FlowSets.{marks_of}
use Rattle.rule.proofs.Digits.{digits_less}
use Rattle.rule.proofs.flow_set.FlowSet.less.Goals as goal

pub overflow_sub-result : goal.overflow_sub-result
overflow_sub-result c = and_le_l _ _

pub returns : goal.returns
unfolding marks_of
returns c = digits_less 20 _ _
