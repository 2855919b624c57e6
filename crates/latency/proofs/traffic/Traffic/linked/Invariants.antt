-- What the loop of `Traffic::linked` keeps. Assumes nothing.
use Rattle.std.proofs.Common.{◌≡◌, ℕ, true, length}
use Rattle.rule.specs.FlowSets.{marks_of, flows_left}
use Rattle.rule.specs.Lists.{is_flow}
use Rattle.latency.specs.Chips.{chip}
use Rattle.interference.proofs.Linked.{apart_at}
use Rattle.interference.proofs.Walking.{Flows}
use Rattle.latency.proofs.traffic.Traffic.linked.Given as goal

abbrev pub invariant-loop-k : goal.invariant-loop-k
invariant-loop-k l =
    ((g : ℕ) → is_flow (length (chip l.self)) g ≡ true → apart_at (chip l.self) (marks_of l.apart) (flows_left l.k-iterator) g ≡ apart_at (chip l.self) (marks_of l.initial.apart) (flows_left l.initial.k-iterator) g)
    × Flows (length (chip l.self)) (flows_left l.k-iterator)
