-- Why `Candidates::chosen` meets its contract. Assumes nothing.
use Rattle.std.proofs.Common.{ℕ, ltb, refl, sym, ap, ◌∙◌, arith}
use Rattle.std.proofs.lemmas.Bool.{cond-true, cond-false, lt-ltb, le-ltb}
use Rattle.rule.specs.declared.flow_set.flows.Flows.{Flows}
use Rattle.rule.specs.FlowSets.{marks_of, flows_left}
use Rattle.rule.proofs.FlowSets.{next_flow}
use Rattle.walk.specs.Choice.{best}
use Rattle.search.specs.Candidates.{entry_of}
use Rattle.search.proofs.Gathering.{best_none, best_found}
use Rattle.search.proofs.candidates.Candidates.chosen.Goals as goal

pub returns-in_err-best : goal.returns-in_err-best
returns-in_err-best c =
    c.from_residual.ensures ∙ best_none c.args.self.now.slack (marks_of c.args.self.now.set) (sym c.iter-flows.ensures ∙ c.in_err-best.ensures.steps.0)

pub loop-f-init : goal.loop-f-init
loop-f-init c =
    let p = next_flow c.iter-flows.result c.in_ok-best.best (flows_left c.next.new.self) c.in_ok-best.ensures.steps in
    (refl, p.0, p.1)

pub overflow_sub-f : goal.overflow_sub-f
overflow_sub-f c = (next_flow c.loop-f.f-iterator c.in-Some.f (flows_left c.next-in-loop-f.new.self) c.in-Some.ensures.steps).0

pub bounds-self-f : goal.bounds-self-f
bounds-self-f c = let p = next_flow c.loop-f.f-iterator c.in-Some.f (flows_left c.next-in-loop-f.new.self) c.in-Some.ensures.steps in omega arith

pub loop-f-preserved-then-self-best : goal.loop-f-preserved-then-self-best
loop-f-preserved-then-self-best c =
    let key = entry_of c.args.self.now.slack in
    let b = c.loop-f.best in
    let f = c.in-Some.f in
    let rest = flows_left c.next-in-loop-f.new.self in
    let p = next_flow c.loop-f.f-iterator f rest c.in-Some.ensures.steps in
    (c.loop-f.invariant.0 ∙ ap (best key b) c.in-Some.ensures.steps ∙ ap (λ (x : ℕ). best key x rest) (cond-true (ltb (key b) (key f)) f b (lt-ltb (key b) (key f) (omega (arith, c.if-self-best.true)))), p.0, p.1)

pub loop-f-preserved : goal.loop-f-preserved
loop-f-preserved c =
    let key = entry_of c.args.self.now.slack in
    let b = c.loop-f.best in
    let f = c.in-Some.f in
    let rest = flows_left c.next-in-loop-f.new.self in
    (c.loop-f.invariant.0 ∙ ap (best key b) c.in-Some.ensures.steps ∙ ap (λ (x : ℕ). best key x rest) (cond-false (ltb (key b) (key f)) f b (le-ltb (key b) (key f) (omega (arith, c.if-self-best.false)))), c.loop-f.invariant.1, c.loop-f.invariant.2)

pub returns : goal.returns
returns c =
    let w = c.args.self.now in
    best_found w.slack (marks_of w.set) c.loop-f.best c.in_ok-best.best (flows_left c.next.new.self) (flows_left c.loop-f.f-iterator) (sym c.iter-flows.ensures ∙ c.in_ok-best.ensures.steps)
    (ap (λ (i : Flows). best (entry_of w.slack) c.in_ok-best.best (flows_left i)) (sym c.into_iter-f-iterator.ensures.into_iter_gives) ∙ c.loop-f.invariant.0) c.in-None.ensures.steps.0
