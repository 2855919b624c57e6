-- Why `Traffic::packets` meets its contract. Assumes nothing.
use Rattle.std.proofs.Common.{rules, ◌≡◌, ℕ, true, length, ap, ◌∙◌, arith}
use Rattle.std.proofs.lemmas.Iterator.{YieldsList-from_map}
use Rattle.std.proofs.lemmas.Iterator.Consumers.{sum_from_yields_List, fits_from_yields_list}
use Rattle.std.proofs.lemmas.Iterator.Adapters.{serves_from_places}
use Rattle.rule.specs.Lists.{is_flow}
use Rattle.rule.specs.FlowSets.{marks_of, members, flows_left}
use Rattle.latency.specs.Chips.{chip}
use Rattle.interference.specs.Interference.{flow}
use Rattle.interference.specs.Tables.{total}
use Rattle.interference.proofs.Walking.{within_flows}
use Rattle.latency.proofs.Sums.{flow_at, flows_come, sum_total, packets_few}
use Rattle.latency.proofs.traffic.Traffic.packets.Goals as goal

pub sum-requires-clause-can : goal.sum-requires-clause-can
sum-requires-clause-can c = (
  tt,
  serves_from_places (flows_come c.map.result.iter c.args.counted (ap flows_left c.map.ensures.source ∙ c.iter.ensures)) (λ x q k. search rules) (λ x k inside e.
      let n : ℕ = length (chip c.args.self.now) in
      let asked : is_flow n x ≡ true = flow_at n (members (marks_of c.args.counted)) x k (within_flows n (marks_of c.args.counted) c.requires) inside e in search rules),
)

pub sum-requires-clause-fits : goal.sum-requires-clause-fits
sum-requires-clause-fits c =
    let w : ℕ → ℕ = λ j. (flow (chip c.args.self.now) j).latency in
    fits_from_yields_list c.map.result 4294967296 (YieldsList-from_map _ w (flows_come c.map.result.iter c.args.counted (ap flows_left c.map.ensures.source ∙ c.iter.ensures)) c.map.ensures.closure (λ x r q k. search rules)) (omega (arith, sum_total w (members (marks_of c.args.counted)), packets_few c.args.self.now c.args.counted c.requires))

pub returns : goal.returns
returns c =
    let w : ℕ → ℕ = λ j. (flow (chip c.args.self.now) j).latency in
    let value : c.sum.result ≡ total w (members (marks_of c.args.counted)) =
    sum_from_yields_List _ _ c.sum.ensures.ran (YieldsList-from_map _ w (flows_come c.map.result.iter c.args.counted (ap flows_left c.map.ensures.source ∙ c.iter.ensures)) c.map.ensures.closure (λ x r q k. search rules))
    ∙ sum_total w (members (marks_of c.args.counted)) in
    record { value = value; few = omega (arith, value, packets_few c.args.self.now c.args.counted c.requires) }
