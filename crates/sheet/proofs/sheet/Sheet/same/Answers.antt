use Rattle.std.proofs.Common.{sym, ◌∙◌}
use Rattle.sheet.proofs.Equal.{sheet_decides}
use Rattle.sheet.proofs.sheet.Sheet.same.Goals as goal

pub returns : goal.returns
returns c =
    let told = sheet_decides c.args.self.now c.args.other.now in (λ e. told.0 (sym c.eq.ensures ∙ e), λ e. c.eq.ensures ∙ told.1 e)
