-- Why `bounds` of `WithoutJitter` meets its contract. Assumes nothing.
use Rattle.std.proofs.Common.{◌≡◌, ℕ, get_or, take, sym, ap, ◌∙◌, arith}
use Rattle.rule.specs.FlowSets.{members}
use Rattle.rule.proofs.Distinct.{distinct_short}
use Rattle.rule.proofs.Told.{telling_more, telling_ends, telling_all}
use Rattle.latency.specs.Analyses.{meaning_of, bound_by}
use Rattle.latency.specs.Chips.{chip}
use Rattle.latency.specs.ChipsLemmas.{chip_few}
use Rattle.interference.proofs.Pass.{place_asked, place_flows, place_more}
use Rattle.latency.proofs.without_jitter.WithoutJitterAnalysis.bounds.Goals as goal

pub plain_bound-requires : goal.plain_bound-requires
plain_bound-requires g c = place_flows (chip c.args.traffic.now) c.args.list.now c.requires c.loop-f.f-index c.loop-f-test.true c.loop-f.above c.loop-f.invariant.1

pub returns-in-None : goal.returns-in-None
returns-in-None g c =
    let fs = chip c.args.traffic.now in
    let list = c.args.list.now in
    let i : ℕ = c.loop-f.f-index in
    let b = bound_by g.I.Interferers.counts in
    let value : c.plain_bound.result ≡ b fs (get_or list i 0) (take i list) = c.plain_bound.ensures ∙ ap (λ x. b fs (get_or list i 0) (members x)) c.loop-f.invariant.1 ∙ g.met.I.Interferers.any_order fs (get_or list i 0) (take i list) (chip_few c.args.traffic.now) (place_asked fs list c.requires i c.loop-f-test.true) in
    telling_ends (meaning_of b b b fs) list i c.loop-f.told c.loop-f.invariant.0 c.loop-f-test.true (sym value ∙ c.in-None.is)

pub loop-f-preserved : goal.loop-f-preserved
loop-f-preserved g c =
    let fs = chip c.args.traffic.now in
    let list = c.args.list.now in
    let i : ℕ = c.loop-f.f-index in
    let b = bound_by g.I.Interferers.counts in
    let few = chip_few c.args.traffic.now in
    let value : c.plain_bound.result ≡ b fs (get_or list i 0) (take i list) = c.plain_bound.ensures ∙ ap (λ x. b fs (get_or list i 0) (members x)) c.loop-f.invariant.1 ∙ g.met.I.Interferers.any_order fs (get_or list i 0) (take i list) few (place_asked fs list c.requires i c.loop-f-test.true) in (
      rw c.push.ensures (telling_more (meaning_of b b b fs) list i c.loop-f.told c.loop-f.invariant.0 c.in-Some.ticks c.loop-f-test.true (omega (arith, distinct_short _ list few c.requires)) (sym value ∙ c.in-Some.is)),
      place_more list i c.loop-f.above c.with-above.result c.loop-f-test.true c.loop-f.invariant.1 c.with-above.ensures,
    )

pub returns : goal.returns
returns g c =
    let b = bound_by g.I.Interferers.counts in
    telling_all (meaning_of b b b (chip c.args.traffic.now)) c.args.list.now c.loop-f.f-index c.loop-f.told c.loop-f.invariant.0 c.loop-f-test.false
