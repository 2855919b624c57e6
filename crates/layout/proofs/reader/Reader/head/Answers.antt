use Rattle.std.proofs.Common.{length, get_or, sym, ap, ◌∙◌, arith}
use Rattle.std.proofs.lemmas.Result.{err_from_is_err_and}
use Rattle.layout.specs.Cursor.{Cursor}
use Rattle.layout.proofs.Heads.{no_tag_first, unnamed}
use Rattle.layout.proofs.reader.Reader.head.Goals as goal

pub returns-in_err-tag : goal.returns-in_err-tag
returns-in_err-tag c =
    let p = err_from_is_err_and c.from_residual.result c.from_residual.ensures.1 in
    let told = unnamed (get_or c.take.result 0 0) c.u16-length.new.self.field c.try_from.result c.in_err-tag.field-0.0 c.try_from.ensures (sym c.at_field-2.ensures ∙ c.in_err-tag.was) in
    let left = sym (ap (λ (here : Cursor). here.left) c.self.view_is) in
    let at = ap (λ (here : Cursor). here.at) c.self.view_is in
    rw (p.1, p.2, told.0) (
      sym (no_tag_first c.args.stage c.args.self.now.left c.take.result c.take.new.self.left (left ∙ c.take.ensures.next) (omega arith) (omega (arith, ap length left)) told.1),
      c.u16-length.ensures.field ∙ c.take.ensures.field ∙ at,
    )
