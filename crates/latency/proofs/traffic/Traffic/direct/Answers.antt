-- Why `Traffic::direct` meets its contract. Assumes nothing.
use Rattle.std.proofs.Common.{◌≡◌, ℕ, ◌&&◌, length, filter, sym, ap, ◌∙◌}
use Rattle.rule.specs.Lists.{has}
use Rattle.rule.specs.FlowSets.{marks_of, members}
use Rattle.rule.proofs.FlowSets.{marks_of_length}
use Rattle.latency.specs.Chips.{chip}
use Rattle.interference.specs.Interference.{share, direct}
use Rattle.interference.proofs.Kept.{both_kept, kept_same, kept_within}
use Rattle.interference.proofs.Walking.{within_flows}
use Rattle.latency.proofs.traffic.Traffic.direct.Goals as goal

pub returns : goal.returns
returns c =
    let n : ℕ = length (chip c.args.self.now) in
    let set = marks_of c.args.set in
    let near = marks_of c.near.result in
    let flows = within_flows n set c.requires.1 in
    let kept : members (marks_of c.and.result) ≡ filter (direct (chip c.args.self.now) c.args.f) (members set) =
    ap members c.and.ensures
    ∙ both_kept set near (marks_of_length c.args.set ∙ sym (marks_of_length c.near.result))
    ∙ kept_same (has near) (direct (chip c.args.self.now) c.args.f) (members set) (λ g asked. c.near.ensures g ∙ ap (λ b. b && share (chip c.args.self.now) g c.args.f) (flows g asked)) in
    record { value = kept; flows = kept_within n (direct (chip c.args.self.now) c.args.f) set (marks_of c.and.result) kept c.requires.1 }
