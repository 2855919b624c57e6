-- What the loop of `sharers_of` keeps. Assumes nothing.
use Rattle.std.proofs.Common.{◌≡◌, ℕ}
use Rattle.rule.specs.FlowSets.{marks_of}
use Rattle.interference.specs.Interference.{flow}
use Rattle.interference.specs.Tables.{routed, sharers}
use Rattle.latency.proofs.traffic.making.sharers_of.Given as goal

abbrev pub invariant-loop-g : goal.invariant-loop-g
invariant-loop-g l = (f : ℕ) → flow (routed l.routes) f ≡ l.own.flow.parameters → marks_of l.set ≡ sharers (routed l.routes) f l.g
