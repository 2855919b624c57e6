-- Why `bound` of `WithoutJitter` meets its contract. Assumes nothing.
use Rattle.std.proofs.Common.{sym, ap, ◌∙◌, subst}
use Rattle.rule.specs.FlowSets.{members}
use Rattle.interference.specs.Interference.{flow, counted}
use Rattle.interference.specs.Rules.{none_extra}
use Rattle.interference.specs.Solution.{Least}
use Rattle.interference.proofs.Asked.{asked_flows}
use Rattle.interference.proofs.Fixed.{least_is}
use Rattle.latency.specs.Analyses.{bound_by, equation_by}
use Rattle.latency.specs.Chips.{chip}
use Rattle.latency.specs.ChipsLemmas.{chip_few}
use Rattle.latency.proofs.without_jitter.WithoutJitterAnalysis.bound.Goals as goal

pub plain_bound-requires : goal.plain_bound-requires
plain_bound-requires g c = asked_flows (chip c.args.traffic.now) c.args.f c.args.above.now c.of.result c.requires c.of.ensures

pub returns-clause-value : goal.returns-clause-value
returns-clause-value g c =
    let fs = chip c.args.traffic.now in
    c.plain_bound.ensures
    ∙ ap (λ s. bound_by g.I.Interferers.counts fs c.args.f (members s)) c.of.ensures
    ∙ g.met.I.Interferers.any_order fs c.args.f c.args.above.now (chip_few c.args.traffic.now) c.requires

pub returns-clause-tells : goal.returns-clause-tells
returns-clause-tells g c =
    let fs = chip c.args.traffic.now in
    let f = c.args.f in
    let above = c.args.above.now in
    subst (λ o. Least (equation_by g.I.Interferers.counts fs f above) (flow fs f).deadline o) (sym (returns-clause-value g c)) (least_is (flow fs f).latency (flow fs f).deadline (counted fs (g.I.Interferers.counts fs f above) none_extra above))
