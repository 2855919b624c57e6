use Rattle.std.proofs.Common.{◌==◌, ap, ◌∙◌}
use Rattle.sheet.specs.Flows.{labelled}
use Rattle.sheet.proofs.Listed.{any_said}
use Rattle.sheet.proofs.sheet.Sheet.has_label.Goals as goal

pub returns : goal.returns
returns c =
    c.any_labelled.ensures ∙ any_said (λ p. c.args.label == p.label) c.flows.result.now ∙ ap (labelled c.args.label) c.flows.ensures
