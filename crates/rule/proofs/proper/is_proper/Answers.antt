-- Why `is_proper` meets its contract. Assumes nothing.
use Rattle.std.proofs.Common.{arith}
use Rattle.std.proofs.lemmas.Bool.Decides.{nat_tests}
use Rattle.rule.proofs.Distinct.{any_among}
use Rattle.rule.proofs.proper.is_proper.Goals as goal
use Rattle.rule.proofs.proper.is_proper.Goals.{then-is_flow, else-is_flow}

pub returns-then-not-contains : goal.returns-then-not-contains
returns-then-not-contains c =
    let a = any_among c.args.f c.args.above.now in
    elim c.if-is_flow.branch [ then-is_flow w ↦ grind (arith, nat_tests) | else-is_flow w ↦ grind (arith, nat_tests) ]

pub returns-else-not-contains : goal.returns-else-not-contains
returns-else-not-contains c =
    let a = any_among c.args.f c.args.above.now in
    elim c.if-is_flow.branch [ then-is_flow w ↦ grind (arith, nat_tests) | else-is_flow w ↦ grind (arith, nat_tests) ]
