use Rattle.std.proofs.Common.{◌≡◌, ◌<◌, map, length, get_or, sym, ap, ◌∙◌, arith}
use Rattle.std.proofs.lemmas.List.{length-map, get_or-map}
use Rattle.sheet.specs.Flows.{said}
use Rattle.layout.specs.Layout.{flow_bytes}
use Rattle.layout.proofs.Laying.{room_for, laid_more}
use Rattle.layout.proofs.writing.flows.Goals as goal
use Rattle.layout.proofs.writing.flows.Goals.{After-parameters}

pub entry-requires : goal.entry-requires
entry-requires c =
    let fs = c.flows-flow-items.result.now in
    let i = c.loop-flow.flow-index in
    let p = c.parameters.result in
    let here : i < length (map said fs) = omega (arith, length-map fs said) in
    room_for flow_bytes (map said fs) i p c.args.page.now c.loop-flow.page 626 here c.loop-flow.invariant (rw c.flows-flow-items.ensures c.requires)

pub loop-flow-preserved : goal.loop-flow-preserved
loop-flow-preserved c =
    let fs = c.flows-flow-items.result.now in
    let i = c.loop-flow.flow-index in
    let p = c.parameters.result in
    let here : i < length (map said fs) = omega (arith, length-map fs said) in
    let same : get_or (map said fs) i p ≡ p = get_or-map said fs i c.flow-item.result p c.loop-flow-test.true ∙ ap said (sym c.flow-item.is) ∙ sym c.parameters.ensures in
    laid_more flow_bytes (map said fs) i p c.args.page.now c.loop-flow.page c.entry.new.self here c.loop-flow.invariant (rw same c.entry.ensures)
