use Rattle.std.proofs.Common.{refl, subst}
use Rattle.layout.specs.declared.entry.Entry.{Entry}
use Rattle.layout.specs.declared.entry.Stage.TheVariants.{FirstFlow}
use Rattle.layout.specs.Cursor.{Peeked}
use Rattle.layout.specs.Progress.{ruled}
use Rattle.layout.proofs.Phases.{flow_read, handed_on}
use Rattle.layout.proofs.Steps.{bad_head}
use Rattle.layout.proofs.reading.first_flow.Goals as goal

pub returns-in_err-parameters : goal.returns-in_err-parameters
returns-in_err-parameters c l =
    handed_on _ _ c.from_residual.result _ c.from_residual.ensures.1 (bad_head (ruled l) c.args.reader.now _ refl c.in_err-parameters.ensures)

pub returns : goal.returns
returns c l =
    let before = c.args.reader.now in
    let after = c.entry.new.self in
    rw c.at_field.ensures
    (flow_read before after l c.in-Flow.parameters c.new.result c.new.ensures (subst (λ (e : Entry). Peeked FirstFlow before after e) c.in-Flow.is c.in_ok-parameters.ensures))
