-- Why `bound` of `WithJitter` meets its contract. Assumes nothing.
use Rattle.std.proofs.Common.{Ok, sym, subst}
use Rattle.latency.specs.Chips.{chip}
use Rattle.interference.specs.Promises.{ToldJ}
use Rattle.latency.proofs.Promised.{told_J}
use Rattle.latency.proofs.rule_j.WithJitterAnalysis.bound.Goals as goal

pub returns-clause-tells : goal.returns-clause-tells
returns-clause-tells c =
    let fs = chip c.args.traffic.now in
    subst (λ o. ToldJ fs c.args.f c.args.above.now (Ok o)) (sym c.delayed_bound.ensures) (told_J fs c.args.f c.args.above.now)
