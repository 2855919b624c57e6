use Rattle.std.proofs.Common.{◌≡◌, List, [], ◌∷◌, sym, refl, ap, ◌∙◌, subst}
use Rattle.chip.specs.declared.parameters.FlowParameters.{FlowParameters}
use Rattle.job.specs.Jobs.{Contents, contents}
use Rattle.sheet.specs.Sheets.{drafted}
use Rattle.layout.specs.declared.entry.Stage.TheVariants.{Flows}
use Rattle.layout.specs.Progress.{standing, part_of, flows_alone, Underway}
use Rattle.layout.specs.Reading.{here}
use Rattle.layout.proofs.Phases.{head_refused, head_passed, handed_on}
use Rattle.layout.proofs.Steps.{peeked_tag}
use Rattle.layout.proofs.reading.rest.Goals as goal
use Rattle.layout.proofs.reading.rest.Goals.{In_ok-next}

pub returns-in_err-next : goal.returns-in_err-next
returns-in_err-next c =
    let d = flows_alone c.args.letter (c.args.first.parameters ∷ []) in
    handed_on _ _ c.from_residual.result _ c.from_residual.ensures.1 (head_refused (standing (part_of Flows d) c.args.reader.now) c.args.reader.now Flows d here _ refl c.in_err-next.ensures)

-- the field after the first flow
second : (c : In_ok-next) → Underway (standing (part_of Flows (flows_alone c.args.letter (c.args.first.parameters ∷ []))) c.args.reader.now) c.entry.new.self (flows_alone c.args.letter (drafted c.open-draft.result)) c.in_ok-next.next
second c =
    let d = flows_alone c.args.letter (c.args.first.parameters ∷ []) in
    let from = standing (part_of Flows d) c.args.reader.now in
    subst (λ (ps : List FlowParameters). Underway from c.entry.new.self (flows_alone c.args.letter ps) c.in_ok-next.next) (sym c.open-draft.ensures)
    (head_passed from c.args.reader.now Flows d here c.entry.new.self c.in_ok-next.next c.in_ok-next.ensures)

pub returns-in_err-next-2 : goal.returns-in_err-next-2
returns-in_err-next-2 c =
    handed_on _ _ c.from_residual-in_err-next-2.result _ c.from_residual-in_err-next-2.ensures.1 (c.in_err-next-2.ensures.cases _ c.args.letter (second (goal.at.returns-in_err-next-2 c).In_ok-next))

pub returns : goal.returns
returns c =
    let told = c.in_ok-next-2.ensures in
    let from = standing (part_of Flows (flows_alone c.args.letter (c.args.first.parameters ∷ []))) c.args.reader.now in
    let made : flows_alone c.args.letter (drafted c.flows.new.draft) ≡ contents c.new.result = ap (flows_alone c.args.letter) (sym c.close.ensures) ∙ sym c.new.ensures in
    c.wishes.ensures from
    (subst (λ (d : Contents). Underway from c.flows.new.reader d c.in_ok-next-2.next) made (told.cases from c.args.letter (second (goal.at.returns c).In_ok-next)))
    (told.which (peeked_tag c.in_ok-next.ensures))
