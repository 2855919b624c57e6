use Rattle.std.proofs.Common.{◌-◌, ◌≤◌}
use Rattle.input.proofs.read_input.Given as goal

abbrev pub invariant-loop-len : goal.invariant-loop-len
invariant-loop-len l = l.len ≤ 1024

abbrev pub decreases-loop-len : goal.decreases-loop-len
decreases-loop-len l = 1024 - l.len
