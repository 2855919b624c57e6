-- Why `FlowSet::and` meets its contract. Assumes nothing.
use Rattle.rule.specs.FlowSets.{marks_of}
use Rattle.rule.proofs.Digits.{digits_and}
use Rattle.rule.proofs.flow_set.FlowSet.and.Goals as goal

pub returns : goal.returns
unfolding marks_of
returns c = digits_and 20 _ _
