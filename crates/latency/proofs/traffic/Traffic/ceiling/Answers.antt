-- Why `Traffic::ceiling` meets its contract. Assumes nothing.
use Rattle.std.proofs.Common.{rules, ◌≡◌, ℕ, true, length, ◌∙◌}
use Rattle.rule.specs.FlowSets.{marks_of, members}
use Rattle.latency.specs.Chips.{chip}
use Rattle.interference.specs.Interference.{direct}
use Rattle.interference.specs.Rules.{ceiling_extra}
use Rattle.interference.proofs.Solved.{solved}
use Rattle.rule.specs.Lists.{is_flow}
use Rattle.interference.proofs.Walking.{within_flows}
use Rattle.latency.proofs.traffic.Traffic.ceiling.Goals as goal

pub jitters-requires-clause-asked : goal.jitters-requires-clause-asked
jitters-requires-clause-asked c =
    λ j asked.
    let n : ℕ = length (chip c.args.self.now) in
    let flow : is_flow n j ≡ true = within_flows n (marks_of c.direct-counted.result) c.direct-counted.ensures.flows j asked in
    search rules

pub returns : goal.returns
returns c =
    c.least.ensures.value
    ∙ solved (chip c.args.self.now) c.args.f (marks_of c.args.set) (marks_of c.direct-counted.result) (direct (chip c.args.self.now) c.args.f) c.jitters.result (ceiling_extra (chip c.args.self.now) c.args.f (members (marks_of c.args.set))) c.direct-counted.ensures.value (λ j among. let told = c.jitters.ensures.value j among in search rules)
