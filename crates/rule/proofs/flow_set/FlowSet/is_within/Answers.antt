-- Why `FlowSet::is_within` meets its contract. Assumes nothing.
use Rattle.rule.proofs.Marks.{within_first}
use Rattle.rule.proofs.FlowSets.{marks_of_length}
use Rattle.rule.proofs.flow_set.FlowSet.is_within.Goals as goal

pub returns : goal.returns
returns c =
    let e = within_first c.args.n _ (marks_of_length c.args.self) in
    cc
