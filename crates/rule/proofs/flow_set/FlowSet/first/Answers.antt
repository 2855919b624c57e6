-- Why `FlowSet::first` meets its contract. Assumes nothing.
use Rattle.std.proofs.Common.{arith}
use Rattle.std.proofs.lemmas.Nat.{one_shl}
use Rattle.rule.specs.FlowSets.{marks_of, first_flows}
use Rattle.rule.proofs.Digits.{digits_first, first_small}
use Rattle.rule.proofs.flow_set.FlowSet.first.Goals as goal

pub invariant_of-result : goal.invariant_of-result
invariant_of-result c = record { small = first_small c.min-count.result (omega arith) }

pub returns : goal.returns
unfolding marks_of first_flows
returns c =
    rw (one_shl c.min-count.result 32 (omega arith)) (digits_first c.args.n c.min-count.result c.min-count.ensures)
