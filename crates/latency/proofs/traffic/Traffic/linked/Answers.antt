-- Why `Traffic::linked` meets its contract. Assumes nothing.
use Rattle.std.proofs.Common.{◌≡◌, ℕ, true, ◌&&◌, List, length, filter, sym, refl, ap, ◌∙◌, subst}
use Rattle.chip.specs.declared.parameters.FlowParameters.{FlowParameters}
use Rattle.rule.specs.Lists.{is_flow, has}
use Rattle.rule.specs.FlowSets.{marks_of, members, flows_left, less}
use Rattle.rule.specs.declared.flow_set.FlowSet.{FlowSet}
use Rattle.rule.proofs.FlowSets.{marks_of_length}
use Rattle.latency.specs.Chips.{chip}
use Rattle.interference.specs.Interference.{share}
use Rattle.interference.specs.Rules.{counts_L}
use Rattle.interference.proofs.Kept.{kept_within}
use Rattle.interference.proofs.Linked.{apart_at, apart_more, apart_done, linked_kept}
use Rattle.interference.proofs.Walking.{Flows, within_flows, flows_tail}
use Rattle.latency.proofs.traffic.Traffic.linked.Goals as goal

sized : (a b : FlowSet) → length (marks_of a) ≡ length (marks_of b)
sized a b = marks_of_length a ∙ sym (marks_of_length b)

pub loop-k-init : goal.loop-k-init
loop-k-init c = (λ g asked. refl, subst (Flows (length (chip c.args.self.now))) (sym c.into_iter-k-iterator.ensures.into_iter_gives) (within_flows (length (chip c.args.self.now)) (marks_of c.direct-direct.result) c.direct-direct.ensures.flows))

pub loop-k-preserved : goal.loop-k-preserved
loop-k-preserved c =
    let fs : List FlowParameters = chip c.args.self.now in
    let k = c.in-Some.k in
    let before = flows_left c.loop-k.k-iterator in
    let after = flows_left c.next.new.self in
    let e = c.in-Some.ensures.steps in (
      (λ g asked.
          ap (λ s. apart_at fs s after g) c.less-apart-in-loop-k.ensures
          ∙ apart_more fs (marks_of c.loop-k.apart) (marks_of c.near.result) before after k g (sized c.loop-k.apart c.near.result) e (c.near.ensures g ∙ ap (λ b. b && share fs g k) asked)
          ∙ c.loop-k.invariant.0 g asked),
      flows_tail (length fs) k before after e c.loop-k.invariant.1,
    )

pub returns : goal.returns
returns c =
    let fs : List FlowParameters = chip c.args.self.now in
    let set = marks_of c.args.set in
    let near = marks_of c.direct-direct.result in
    let apart = marks_of c.loop-k.apart in
    let rest : (g : ℕ) → is_flow (length fs) g ≡ true → has apart g ≡ apart_at fs (less set near) (members near) g =
    λ g asked. apart_done fs apart (flows_left c.loop-k.k-iterator) g c.in-None.ensures.steps.0 ∙ c.loop-k.invariant.0 g asked ∙ ap (λ js. apart_at fs (marks_of c.less-apart.result) js g) c.into_iter-k-iterator.ensures.into_iter_gives ∙ ap (λ s. apart_at fs s (members near) g) c.less-apart.ensures in
    let value : members (marks_of c.less.result) ≡ filter (counts_L fs c.args.f (members set)) (members set) =
    ap members c.less.ensures ∙ linked_kept fs c.args.f (length fs) set near apart (sized c.args.set c.direct-direct.result) (sized c.args.set c.loop-k.apart) c.requires.1 c.direct-direct.ensures.value rest in
    record { value = value; flows = kept_within (length fs) (counts_L fs c.args.f (members set)) set (marks_of c.less.result) value c.requires.1 }
