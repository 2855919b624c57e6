-- Why `Traffic::under` meets its contract. Assumes nothing.
use Rattle.std.proofs.Common.{rules, ◌≡◌, true, List, length, sym, ap, ◌∙◌, arith}
use Rattle.chip.specs.declared.parameters.FlowParameters.{FlowParameters}
use Rattle.rule.specs.FlowSets.{marks_of, members}
use Rattle.rule.specs.Lists.{is_flow, among}
use Rattle.rule.proofs.Members.{among_members}
use Rattle.latency.specs.Chips.{chip}
use Rattle.interference.specs.Interference.{flow, direct}
use Rattle.interference.specs.Solution.{demand}
use Rattle.interference.specs.Tables.{tabled}
use Rattle.latency.specs.ChipsLemmas.{chip_few}
use Rattle.latency.proofs.Climb.{chip_times}
use Rattle.latency.proofs.Delayed.{settled_solution}
use Rattle.interference.proofs.Fixed.{timely, in_time}
use Rattle.interference.proofs.Kept.{kept_among}
use Rattle.interference.proofs.Walking.{within_flows}
use Rattle.latency.proofs.traffic.Traffic.under.Goals as goal

pub jitters-requires-clause-asked : goal.jitters-requires-clause-asked
jitters-requires-clause-asked c =
    λ j asked.
    let fs : List FlowParameters = chip c.args.self.now in
    let above = marks_of c.args.settled.now.above in
    let flow : is_flow (length fs) j ≡ true = within_flows (length fs) (marks_of c.direct-counted.result) c.direct-counted.ensures.flows j asked in
    let inside = c.requires.1.1 j (sym (among_members j above) ∙ kept_among (direct fs c.args.f) (members above) j (sym (ap (among j) c.direct-counted.ensures.value) ∙ asked)) in
    search rules

pub returns : goal.returns
returns c =
    let fs : List FlowParameters = chip c.args.self.now in
    let s = c.args.settled.now in
    let f = c.args.f in
    record {
      value = λ above asked e holds. c.least.ensures.value ∙ settled_solution fs s f (marks_of s.above) (marks_of c.direct-counted.result) c.jitters.result above (chip_few c.args.self.now) asked e holds c.direct-counted.ensures.value (λ j among. let told = c.jitters.ensures.value j among in search rules);
      few = in_time c.least.result (flow fs f).deadline 1000000 (omega (arith, chip_times c.args.self.now f c.requires.0)) (timely (demand (flow fs f).latency (tabled fs c.jitters.result (marks_of c.direct-counted.result))) (flow fs f).deadline c.least.result c.least.ensures.least);
    }
