use Rattle.std.proofs.Common.{◌+◌, ◌≤◌, List, length, ap, arith}
use Rattle.std.specs.List.{flat_map}
use Rattle.chip.specs.declared.parameters.FlowParameters.{FlowParameters}
use Rattle.job.specs.Jobs.{contents}
use Rattle.sheet.specs.Sheets.{flows_of}
use Rattle.layout.specs.Layout.{flow_bytes}
use Rattle.layout.proofs.Laying.{longer, flows_fit, pairs_fit, reserve_fits}
use Rattle.layout.proofs.writing.lay_out.Goals as goal
use Rattle.layout.proofs.writing.lay_out.Goals.{After-sheet, After-flows, After-reserve}

-- how many bytes are laid out, step by step
flows_long : (c : After-sheet) → length c.entry.new.self + length (flat_map flow_bytes (flows_of c.sheet.result.now)) ≤ 504
flows_long c =
    omega (arith, longer c.entry.new.self c.blank-page.result _ c.entry.ensures, ap length c.blank-page.ensures, flows_fit c.args.job.now, ap (λ (ps : List FlowParameters). length (flat_map flow_bytes ps)) c.sheet.ensures)

pub flows-requires : goal.flows-requires
flows-requires c = omega (arith, flows_long c)

pub reserve-requires : goal.reserve-requires
reserve-requires c =
    omega (arith, flows_long (goal.at.reserve-requires c).After-sheet, longer c.flows.new.page c.entry.new.self _ c.flows.ensures, reserve_fits (contents c.args.job.now).reserve)

pub pairs-requires : goal.pairs-requires
pairs-requires c =
    omega (arith, flows_long (goal.at.pairs-requires c).After-sheet, longer c.flows.new.page c.entry.new.self _ c.flows.ensures, reserve_fits (contents c.args.job.now).reserve, longer c.reserve.new.page c.flows.new.page _ c.reserve.ensures, pairs_fit c.args.job.now)

pub entry-requires-2 : goal.entry-requires-2
entry-requires-2 c =
    omega (arith, flows_long (goal.at.entry-requires-2 c).After-sheet, longer c.flows.new.page c.entry.new.self _ c.flows.ensures, reserve_fits (contents c.args.job.now).reserve, longer c.reserve.new.page c.flows.new.page _ c.reserve.ensures, pairs_fit c.args.job.now, longer c.pairs.new.page c.reserve.new.page _ c.pairs.ensures)
