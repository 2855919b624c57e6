use Rattle.std.proofs.Common.{arith}
use Rattle.chip.proofs.Sound.{flow_times}
use Rattle.latency.proofs.Sums.{taken_few}
use Rattle.latency.proofs.traffic.solving.taken.Goals as goal

-- what a flow takes is few
pub returns-clause-few : goal.returns-clause-few
returns-clause-few c = taken_few c.parameters-p.result c.args.extra c.args.r (rw c.parameters-p.ensures (flow_times c.args.flow)) c.requires.0 c.requires.1

pub overflow_mul-result : goal.overflow_mul-result
overflow_mul-result c = omega (arith, returns-clause-few c)
