-- Why `Traffic::settle` ends. Assumes nothing.
use Rattle.std.proofs.Common.{◌-◌, length}
use Rattle.latency.proofs.traffic.Traffic.+settle.Given as goal

abbrev pub decreases-settle : goal.decreases-settle
decreases-settle l = length l.list.now - l.k
