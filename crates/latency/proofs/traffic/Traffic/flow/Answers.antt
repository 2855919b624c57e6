-- Why `Traffic::flow` meets its contract. Assumes nothing.
use Rattle.std.proofs.Common.{sym, arith}
use Rattle.latency.specs.ChipsLemmas.{chip_range, chip_flow}
use Rattle.latency.proofs.traffic.Traffic.flow.Goals as goal

pub listed : goal.listed
listed c = omega (arith, chip_range c.args.self.now c.args.f c.requires)

pub bounds-self-f : goal.bounds-self-f
bounds-self-f c = omega (arith, chip_range c.args.self.now c.args.f c.requires)

pub returns : goal.returns
returns c = sym (chip_flow c.args.self.now c.args.f c.index-self-f.result c.requires)
