-- Why `FlowSet::pop` meets its contract. Assumes nothing.
use Rattle.std.proofs.Common.{refl, arith}
use Rattle.rule.specs.FlowSets.{marks_of}
use Rattle.rule.proofs.Digits.{digits_pop, digits_spent}
use Rattle.rule.proofs.flow_set.FlowSet.pop.Goals as goal

pub returns-then-bits-eq0 : goal.returns-then-bits-eq0
unfolding marks_of
returns-then-bits-eq0 c = (rw c.if-bits-eq0.true (digits_spent 20 1), refl)

pub returns : goal.returns
unfolding marks_of
returns c = digits_pop c.args.self.now.bits (omega arith) c.args.self.now.small
