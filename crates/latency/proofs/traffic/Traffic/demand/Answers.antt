-- Why `Traffic::demand` meets its contract. Assumes nothing.
use Rattle.std.proofs.Common.{rules, ◌≡◌, ℕ, ◌+◌, ◌≤◌, true, length, ap, ◌∙◌, arith}
use Rattle.std.proofs.lemmas.Iterator.{YieldsList-from_map}
use Rattle.std.proofs.lemmas.Iterator.Consumers.{sum_from_yields_List, fits_from_yields_list}
use Rattle.std.proofs.lemmas.Iterator.Adapters.{serves_from_places}
use Rattle.rule.specs.Lists.{is_flow}
use Rattle.rule.specs.FlowSets.{marks_of, members, flows_left}
use Rattle.latency.specs.Chips.{chip}
use Rattle.latency.specs.ChipsLemmas.{chip_range}
use Rattle.interference.specs.Interference.{interferer}
use Rattle.interference.specs.Solution.{taken}
use Rattle.interference.specs.Tables.{of_flow, total}
use Rattle.interference.proofs.Walking.{within_flows}
use Rattle.latency.proofs.Sums.{flow_at, flows_come, sum_total, load_total, taken_all_few}
use Rattle.latency.proofs.traffic.Traffic.demand.Goals as goal

pub sum-requires-clause-can : goal.sum-requires-clause-can
sum-requires-clause-can c = (
  tt,
  serves_from_places (flows_come c.map-taken.result.iter c.args.counted (ap flows_left c.map-taken.ensures.source ∙ c.iter.ensures)) (λ x q k. search rules) (λ x k inside e.
      let n : ℕ = length (chip c.args.self.now) in
      let asked : is_flow n x ≡ true = flow_at n (members (marks_of c.args.counted)) x k (within_flows n (marks_of c.args.counted) c.requires.0) inside e in
      let range = chip_range c.args.self.now x asked in
      let late = c.requires.1.1.1 x in
      let soon = c.requires.1.1.0 in
      search rules),
)

pub sum-requires-clause-fits : goal.sum-requires-clause-fits
sum-requires-clause-fits c =
    let w : ℕ → ℕ = λ j. taken (interferer (chip c.args.self.now) j (of_flow c.args.extra.now j)) c.args.r in
    fits_from_yields_list c.map-taken.result 4294967296 (YieldsList-from_map _ w (flows_come c.map-taken.result.iter c.args.counted (ap flows_left c.map-taken.ensures.source ∙ c.iter.ensures)) c.map-taken.ensures.closure (λ x r q k. search rules)) (omega (arith, sum_total w (members (marks_of c.args.counted)), taken_all_few c.args.self.now c.args.counted c.requires.0 (of_flow c.args.extra.now) c.args.r c.requires.1.1.1 c.requires.1.1.0))

all_taken : (c : goal.After-sum) → c.sum.result ≡ total (λ j. taken (interferer (chip c.args.self.now) j (of_flow c.args.extra.now j)) c.args.r) (members (marks_of c.args.counted))
all_taken c =
    let w : ℕ → ℕ = λ j. taken (interferer (chip c.args.self.now) j (of_flow c.args.extra.now j)) c.args.r in
    sum_from_yields_List _ _ c.sum.ensures.ran (YieldsList-from_map _ w (flows_come c.map-taken.result.iter c.args.counted (ap flows_left c.map-taken.ensures.source ∙ c.iter.ensures)) c.map-taken.ensures.closure (λ x r q k. search rules))
    ∙ sum_total w (members (marks_of c.args.counted))

few_taken : (c : goal.After-sum) → c.sum.result ≤ 80000000
few_taken c = omega (arith, all_taken c, taken_all_few c.args.self.now c.args.counted c.requires.0 (of_flow c.args.extra.now) c.args.r c.requires.1.1.1 c.requires.1.1.0)

pub overflow_add-result : goal.overflow_add-result
overflow_add-result c = omega (arith, few_taken c, c.requires.1.0)

pub returns : goal.returns
returns c =
    record {
      value = ap (λ n. c.args.base + n) (all_taken c ∙ load_total (chip c.args.self.now) (of_flow c.args.extra.now) c.args.r (members (marks_of c.args.counted)));
      few = omega (arith, few_taken c, c.requires.1.0);
    }
