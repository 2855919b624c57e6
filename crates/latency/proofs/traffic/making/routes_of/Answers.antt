-- Why `routes_of` meets its contract. Assumes nothing.
use Rattle.std.proofs.Common.{◌≡◌, length, map, take, sym, ap, ◌∙◌, arith}
use Rattle.chip.specs.declared.parameters.FlowParameters.{FlowParameters}
use Rattle.chip.specs.declared.flow.Flow.{Flow}
use Rattle.chip.specs.declared.route.Route.{Route}
use Rattle.std.proofs.lemmas.List.{length-set, length-map, take-map, take_all}
use Rattle.interference.proofs.Filling.{fill_more}
use Rattle.latency.proofs.traffic.making.routes_of.Goals as goal

abbrev of_route : Route → FlowParameters
of_route r = r.flow.parameters

abbrev of_flow : Flow → FlowParameters
of_flow f = f.parameters

pub loop-place-preserved : goal.loop-place-preserved
loop-place-preserved c = (
  simp length-set c.loop-place.invariant.0,
  fill_more of_route of_flow c.loop-place.routes c.args.flows.now c.loop-place.place c.of.result c.index-flows-place.result (omega arith) (omega arith) c.loop-place.invariant.1 (ap of_flow (c.of.ensures ∙ c.index-flows-place.is)),
)

pub returns : goal.returns
returns c =
    let n = length c.args.flows.now in
    let all : c.loop-place.place ≡ n = omega arith in
    sym (take-map of_route n c.loop-place.routes) ∙ ap (λ k. take k (map of_route c.loop-place.routes)) (sym all) ∙ c.loop-place.invariant.1
    ∙ take_all c.loop-place.place (map of_flow c.args.flows.now) (simp length-map (omega arith))
