use Rattle.std.proofs.Common.{List, [], ◌∷◌, ◌++◌, sym, refl, subst}
use Rattle.chip.specs.declared.parameters.FlowParameters.{FlowParameters}
use Rattle.sheet.specs.Sheets.{drafted}
use Rattle.sheet.specs.declared.letter.Letter.{Letter}
use Rattle.layout.specs.declared.entry.Entry.{Entry}
use Rattle.layout.specs.declared.entry.Entry.TheVariants as entry
use Rattle.layout.specs.declared.entry.Stage.TheVariants.{Flows}
use Rattle.layout.specs.Progress.{standing, part_of, flows_alone, Underway}
use Rattle.layout.specs.Reading.{State, Reads}
use Rattle.layout.proofs.Phases.{entry_read, entry_refused, head_refused, head_passed, handed_on}
use Rattle.layout.proofs.Steps.{peeked_tag}
use Rattle.layout.proofs.reading.flows.Goals as goal
use Rattle.layout.proofs.reading.flows.Goals.{In-Flow, In_ok-add_flow}

-- the flow stands next
this_flow : (c : In-Flow) (from : State) (l : Letter) → Underway from c.args.reader.now (flows_alone l (drafted c.args.draft.now)) c.args.next → Underway from c.loop-next.reader (flows_alone l (drafted c.loop-next.draft)) (entry.Flow c.in-Flow.parameters)
this_flow c from l u = subst (λ (e : Entry). Underway from c.loop-next.reader (flows_alone l (drafted c.loop-next.draft)) e) c.in-Flow.is (c.loop-next.invariant.1 from l u)

pub returns-in_err-add_flow-clause-cases : goal.returns-in_err-add_flow-clause-cases
returns-in_err-add_flow-clause-cases c from l u =
    let told = c.in_err-add_flow.ensures in
    handed_on _ _ c.from_residual.result _ c.from_residual.ensures.1 (entry_refused from c.loop-next.reader (flows_alone l (drafted c.loop-next.draft)) (entry.Flow c.in-Flow.parameters) (this_flow (goal.at.returns-in_err-add_flow-clause-cases c).In-Flow from l u) _ (λ s. told.0) told.1)

-- once the flow is added, it is read
read_flow : (c : In_ok-add_flow) (from : State) (l : Letter) → Underway from c.loop-next.reader (flows_alone l (drafted c.loop-next.draft)) (entry.Flow c.in-Flow.parameters) → Reads from (standing (part_of Flows (flows_alone l (drafted c.add_flow.new.draft))) c.loop-next.reader)
read_flow c from l u =
    let told = c.in_ok-add_flow.ensures in
    subst (λ (ps : List FlowParameters). Reads from (standing (part_of Flows (flows_alone l ps)) c.loop-next.reader)) (sym told.1)
    (entry_read from c.loop-next.reader (flows_alone l (drafted c.loop-next.draft)) (entry.Flow c.in-Flow.parameters) u Flows (flows_alone l (drafted c.loop-next.draft ++ c.in-Flow.parameters ∷ [])) (λ s. told.0) (λ s. refl))

pub returns-in_err-next-clause-cases : goal.returns-in_err-next-clause-cases
returns-in_err-next-clause-cases c from l u =
    let on = goal.at.returns-in_err-next-clause-cases c in
    handed_on _ _ c.from_residual-in_err-next.result _ c.from_residual-in_err-next.ensures.1 (head_refused from c.loop-next.reader Flows (flows_alone l (drafted c.add_flow.new.draft)) (read_flow on.In_ok-add_flow from l (this_flow on.In-Flow from l u)) _ refl c.in_err-next.ensures)

pub loop-next-preserved : goal.loop-next-preserved
loop-next-preserved c =
    let told = c.in_ok-next.ensures in
    let on = goal.at.loop-next-preserved c in (
      (λ _. peeked_tag told),
      λ from l u.
          head_passed from c.loop-next.reader Flows (flows_alone l (drafted c.add_flow.new.draft)) (read_flow on.In_ok-add_flow from l (this_flow on.In-Flow from l u)) c.entry.new.self c.in_ok-next.next told,
    )
