-- Why `FlowSet::with` meets its contract. Assumes nothing.
use lib.Bits.{or_lt}
use Rattle.rule.specs.FlowSets.{marks_of}
use Rattle.rule.proofs.Digits.{digits_with}
use Rattle.rule.proofs.flow_set.FlowSet.with.Goals as goal

pub invariant_of-result : goal.invariant_of-result
invariant_of-result c = record { small = or_lt 20 _ _ c.args.self.small c.digit_of.ensures.small }

pub returns : goal.returns
unfolding marks_of
returns c = rw c.digit_of.ensures.value (digits_with 20 c.args.self.bits c.args.g)
