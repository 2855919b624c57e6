use Rattle.std.proofs.Common.{◌≡◌, false, ⊎_elim, sym, ap, ◌∙◌, subst}
use Rattle.table.proofs.Pushed.{pushed}
use Rattle.sheet.specs.Flows.{labelled}
use Rattle.sheet.specs.Sheets.{flows_of}
use Rattle.sheet.proofs.Listed.{Sound, sound_push}
use Rattle.sheet.proofs.sheet.Sheet.add.Goals as goal

pub invariant_of-self : goal.invariant_of-self
invariant_of-self c =
    let s = c.args.self.now in
    let f = c.args.flow in
    let fresh : labelled f.parameters.label (flows_of s) ≡ false = ap (λ p. labelled p.label (flows_of s)) (sym c.parameters.ensures) ∙ sym c.has_label.ensures ∙ c.if-has_label.false in
    let old : Sound s.flows.items = (s.some, s.few, s.distinct) in
    let new : Sound c.push.new.self.items =
    ⊎_elim
    (λ w. subst Sound (sym w.1) (sound_push s.flows.items f old fresh w.0))
    (λ w. subst (λ l. Sound l.items) (sym w.1) old)
    (pushed 20 s.flows c.push.new.self f c.push.result c.push.ensures.reply c.push.ensures.ok c.push.ensures.err) in
    record { some = new.0; few = new.1; distinct = new.2 }
