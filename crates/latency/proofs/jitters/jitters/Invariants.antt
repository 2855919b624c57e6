-- What the loop of `jitters` keeps. Assumes nothing.
use Rattle.rule.specs.FlowSets.{marks_of, members, flows_left}
use Rattle.interference.proofs.Jitters.{Filled}
use Rattle.latency.proofs.jitters.jitters.Given as goal

abbrev pub invariant-loop-j : goal.invariant-loop-j
invariant-loop-j g l = Filled (λ j extra. goal.F-post g l.jitter j extra) (members (marks_of l.fn.counted)) (flows_left l.j-iterator) l.extra
