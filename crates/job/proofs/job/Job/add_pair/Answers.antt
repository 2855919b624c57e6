use Rattle.std.proofs.Common.{◌≡◌, true, sym, ◌∙◌, subst, ⊎_elim}
use Rattle.table.proofs.Pushed.{pushed}
use Rattle.sheet.specs.Pairs.{pair_holds}
use Rattle.sheet.specs.Sheets.{flows_of}
use Rattle.job.proofs.Paired.{Sound, sound_push}
use Rattle.job.proofs.job.Job.add_pair.Goals as goal

pub invariant_of-self : goal.invariant_of-self
invariant_of-self c =
    let j = c.args.self.now in
    let ps = flows_of j.sheet in
    let holds : pair_holds ps c.args.pair ≡ true = sym c.has_pair.ensures ∙ c.if-not-has_pair.false in
    let old : Sound ps j.pairs.items = (j.few, j.known) in
    let new : Sound ps c.push.new.self.items =
    ⊎_elim
    (λ w. subst (Sound ps) (sym w.1) (sound_push ps j.pairs.items c.args.pair old holds w.0))
    (λ w. subst (λ l. Sound ps l.items) (sym w.1) old)
    (pushed 16 j.pairs c.push.new.self c.args.pair c.push.result c.push.ensures.reply c.push.ensures.ok c.push.ensures.err) in
    record { few = new.0; known = new.1 }
