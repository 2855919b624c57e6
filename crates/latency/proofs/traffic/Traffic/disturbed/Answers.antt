-- Why `Traffic::disturbed` meets its contract. Assumes nothing.
use Rattle.std.proofs.Common.{not, ◌&&◌, List, length, sym, ap, ◌∙◌, ap₂}
use Rattle.chip.specs.declared.parameters.FlowParameters.{FlowParameters}
use Rattle.rule.specs.Lists.{has}
use Rattle.rule.specs.FlowSets.{marks_of, members, less, empty}
use Rattle.rule.proofs.FlowSets.{marks_of_length}
use Rattle.latency.specs.Chips.{chip}
use Rattle.interference.specs.Interference.{share}
use Rattle.interference.proofs.Kept.{any_same, some_in_both_not}
use Rattle.interference.proofs.Walking.{within_flows}
use Rattle.latency.proofs.traffic.Traffic.disturbed.Goals as goal

pub returns : goal.returns
returns c =
    let fs : List FlowParameters = chip c.args.self.now in
    let set = marks_of c.args.over in
    let near = marks_of c.near.result in
    let far = marks_of c.near-2.result in
    let flows = within_flows (length fs) set c.requires.1.1 in
    ap not (c.is_empty.ensures ∙ ap empty (c.less.ensures ∙ ap (λ s. less s far) c.and.ensures))
    ∙ some_in_both_not set near far (marks_of_length c.args.over ∙ sym (marks_of_length c.near.result)) (ap length (sym c.and.ensures) ∙ marks_of_length c.and.result ∙ sym (marks_of_length c.near-2.result))
    ∙ any_same (λ g. has near g && not (has far g)) (λ g. share fs g c.args.j && not (share fs g c.args.f)) (members set)
    (λ g asked. ap₂ (λ a b. a && not b) (c.near.ensures g ∙ ap (λ b. b && share fs g c.args.j) (flows g asked)) (c.near-2.ensures g ∙ ap (λ b. b && share fs g c.args.f) (flows g asked)))
