-- Why `Traffic::near` meets its contract. Assumes nothing.
use Rattle.std.proofs.Common.{arith}
use Rattle.latency.specs.ChipsLemmas.{chip_range, chip_near}
use Rattle.latency.proofs.traffic.Traffic.near.Goals as goal

pub listed : goal.listed
listed c = omega (arith, chip_range c.args.self.now c.args.f c.requires)

pub bounds-self-f : goal.bounds-self-f
bounds-self-f c = omega (arith, chip_range c.args.self.now c.args.f c.requires)

pub returns : goal.returns
returns c = λ g. chip_near c.args.self.now c.args.f g c.index-self-f.result c.requires
