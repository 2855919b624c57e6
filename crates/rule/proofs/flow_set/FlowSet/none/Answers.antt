-- Why `FlowSet::none` meets its contract. Assumes nothing.
use Rattle.std.proofs.Common.{◌∙◌}
use Rattle.rule.specs.Lists.{marks}
use Rattle.rule.specs.FlowSets.{marks_of}
use Rattle.rule.proofs.Digits.{digits_zero}
use Rattle.rule.proofs.Marks.{marks_from_none}
use Rattle.rule.proofs.flow_set.FlowSet.none.Goals as goal

pub returns : goal.returns
unfolding marks_of marks
returns c = digits_zero 20 ∙ marks_from_none 20 1
