use Rattle.std.proofs.Common.{refl, ap, ◌∙◌, subst}
use Rattle.layout.specs.declared.entry.Entry.{Entry}
use Rattle.layout.specs.declared.entry.Stage.TheVariants.{Rule}
use Rattle.layout.specs.Cursor.{Peeked}
use Rattle.layout.specs.Faults.{blank}
use Rattle.layout.specs.Progress.{placed}
use Rattle.layout.proofs.Phases.{letter_read, handed_on}
use Rattle.layout.proofs.Steps.{bad_head}
use Rattle.layout.proofs.reading.letter.Goals as goal

pub returns-in_err-byte : goal.returns-in_err-byte
returns-in_err-byte c = handed_on _ _ c.from_residual.result _ c.from_residual.ensures.1 (bad_head blank c.args.reader.now _ refl c.in_err-byte.ensures)

pub returns : goal.returns
returns c =
    let before = c.args.reader.now in
    let after = c.entry.new.self in
    rw (c.at_field.ensures ∙ ap (placed after.field) c.try_from.ensures)
    (letter_read before after c.in-Rule.byte (subst (λ (e : Entry). Peeked Rule before after e) c.in-Rule.is c.in_ok-byte.ensures))
