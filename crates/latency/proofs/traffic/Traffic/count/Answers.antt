-- Why `Traffic::count` meets its contract. Assumes nothing.
use Rattle.std.proofs.Common.{sym, arith}
use Rattle.latency.specs.ChipsLemmas.{chip_length}
use Rattle.latency.proofs.traffic.Traffic.count.Goals as goal

pub returns : goal.returns
returns c = record { value = sym (chip_length c.args.self.now); range = omega arith }
