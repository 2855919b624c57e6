-- Why `Traffic::plain_bound` meets its contract. Assumes nothing.
use Rattle.std.proofs.Common.{replicate, ◌∙◌, arith}
use Rattle.rule.specs.FlowSets.{marks_of, members}
use Rattle.latency.specs.Chips.{chip}
use Rattle.interference.specs.Rules.{none_extra}
use Rattle.interference.proofs.Solved.{solved, no_jitter}
use Rattle.latency.proofs.traffic.Traffic.plain_bound.Goals as goal

pub least-requires : goal.least-requires
least-requires g c = (c.requires.0, (c.out_of.ensures.flows, λ j. omega (arith, no_jitter j)))

pub returns : goal.returns
returns g c =
    c.least.ensures.value
    ∙ solved (chip c.args.self.now) c.args.f (marks_of c.args.set) (marks_of c.out_of.result) (g.I.Interferers.counts (chip c.args.self.now) c.args.f (members (marks_of c.args.set))) (replicate 20 0) none_extra c.out_of.ensures.value (λ j asked. no_jitter j)
