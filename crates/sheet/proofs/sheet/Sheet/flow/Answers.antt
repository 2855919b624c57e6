use Rattle.std.proofs.Common.{◌≡◌, ◌+◌, ap, ◌∙◌, arith}
use Rattle.sheet.specs.Flows.{said_of, flow_numbered}
use Rattle.sheet.specs.Sheets.{flows_of}
use Rattle.sheet.proofs.Listed.{flow_told}
use Rattle.sheet.proofs.sheet.Sheet.flow.Goals as goal

pub returns : goal.returns
returns c =
    let i = c.in_ok-checked_sub.field-0 in
    let next : i + 1 ≡ c.args.number = omega (arith, c.in_ok-checked_sub.ensures) in
    ap said_of c.get.ensures ∙ flow_told c.args.self.now.flows.items i ∙ ap (λ n. flow_numbered n (flows_of c.args.self.now)) next
