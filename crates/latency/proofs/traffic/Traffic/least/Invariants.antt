-- What the loop of `Traffic::least` keeps. Assumes nothing.
use Rattle.std.proofs.Common.{suc, ◌-◌, ◌≤◌}
use Rattle.rule.specs.FlowSets.{marks_of}
use Rattle.latency.specs.Chips.{chip}
use Rattle.interference.specs.Solution.{demand}
use Rattle.interference.specs.Tables.{tabled}
use Rattle.latency.proofs.Climb.{Below}
use Rattle.latency.proofs.traffic.Traffic.least.Given as goal

abbrev pub invariant-loop-r : goal.invariant-loop-r
invariant-loop-r l = Below (demand l.p.latency (tabled (chip l.self) l.extra (marks_of l.counted))) l.r × (l.r ≤ 81000000)

abbrev pub decreases-loop-r : goal.decreases-loop-r
decreases-loop-r l = suc l.p.deadline - l.r
