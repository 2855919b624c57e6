-- Why `Traffic::least` meets its contract. Assumes nothing.
use Rattle.std.proofs.Common.{ℕ, ◌+◌, List, length, Some, None, sym, ◌∙◌, subst, arith}
use Rattle.rule.specs.FlowSets.{marks_of, members}
use Rattle.latency.specs.Chips.{chip, Timely}
use Rattle.interference.specs.Interference.{flow}
use Rattle.interference.specs.Solution.{Interferer, demand, Least}
use Rattle.interference.specs.Tables.{of_flow, tabled}
use Rattle.latency.proofs.Climb.{chip_times, Below, below_start, below_more, climbed, passed, as_least}
use Rattle.interference.proofs.Walking.{within_flows}
use Rattle.latency.proofs.traffic.Traffic.least.Goals as goal

pub loop-r-init : goal.loop-r-init
loop-r-init c =
    let times : Timely c.parameters-p.result = subst Timely (sym (c.parameters-p.ensures ∙ c.flow.ensures)) (chip_times c.args.self.now c.args.f c.requires.0) in
    let xs : List Interferer = tabled (chip c.args.self.now) c.args.extra.now (marks_of c.args.counted) in
    let base : ℕ = c.parameters-p.result.latency in
    let start = below_start c.args.self.now base (of_flow c.args.extra.now) (members (marks_of c.args.counted)) (omega (arith, times)) (within_flows (length (chip c.args.self.now)) (marks_of c.args.counted) c.requires.1.0) in
    (subst (λ n. Below (demand base xs) (base + n)) (sym c.packets.ensures.value) start, omega (arith, c.packets.ensures.few, times))

pub returns-then-next-r : goal.returns-then-next-r
returns-then-next-r c =
    let xs : List Interferer = tabled (chip c.args.self.now) c.args.extra.now (marks_of c.args.counted) in
    let p = c.parameters-p.result in
    let here = climbed p.latency p.deadline xs c.loop-r.r c.loop-r.invariant.0 (omega arith) (sym c.demand-next.ensures.value ∙ c.if-next-r.true) in
    let told : Least (demand (flow (chip c.args.self.now) c.args.f).latency xs) (flow (chip c.args.self.now) c.args.f).deadline (Some c.loop-r.r) = subst (λ q. Least (demand q.latency xs) q.deadline (Some c.loop-r.r)) (c.parameters-p.ensures ∙ c.flow.ensures) here in
    record { value = as_least (flow (chip c.args.self.now) c.args.f).latency (flow (chip c.args.self.now) c.args.f).deadline xs (Some c.loop-r.r) told; least = told }

pub loop-r-preserved : goal.loop-r-preserved
loop-r-preserved c =
    let xs : List Interferer = tabled (chip c.args.self.now) c.args.extra.now (marks_of c.args.counted) in
    let base : ℕ = c.parameters-p.result.latency in
    (subst (λ n. Below (demand base xs) n) (sym c.demand-next.ensures.value) (below_more base xs c.loop-r.r c.loop-r.invariant.0), c.demand-next.ensures.few)

pub returns : goal.returns
returns c =
    let xs : List Interferer = tabled (chip c.args.self.now) c.args.extra.now (marks_of c.args.counted) in
    let p = c.parameters-p.result in
    let here = passed p.latency p.deadline xs c.loop-r.r c.loop-r.invariant.0 (omega arith) in
    let told : Least (demand (flow (chip c.args.self.now) c.args.f).latency xs) (flow (chip c.args.self.now) c.args.f).deadline None = subst (λ q. Least (demand q.latency xs) q.deadline None) (c.parameters-p.ensures ∙ c.flow.ensures) here in
    record { value = as_least (flow (chip c.args.self.now) c.args.f).latency (flow (chip c.args.self.now) c.args.f).deadline xs None told; least = told }
