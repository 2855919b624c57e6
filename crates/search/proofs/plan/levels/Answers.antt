-- Why there is room for each level. Assumes nothing.
use Rattle.std.proofs.Common.{length, ap, arith}
use Rattle.search.proofs.Planned.{levels_length}
use Rattle.search.proofs.plan.levels.Goals as goal

pub unwrap-requires : goal.unwrap-requires
unwrap-requires g c =
    let long = levels_length (g.R.Rule.meaning c.args.rule.now) c.args.order.now c.args.bounds.now c.loop-i.i in
    c.extend.ensures.reply.1 (omega (arith, ap length c.loop-i.invariant, long, c.requires))
