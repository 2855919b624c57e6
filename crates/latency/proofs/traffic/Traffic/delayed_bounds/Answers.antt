-- Why `Traffic::delayed_bounds` meets its contract. Assumes nothing.
use Rattle.latency.specs.Chips.{chip}
use Rattle.latency.proofs.Settles.{settling_none, settled_told}
use Rattle.latency.proofs.traffic.Traffic.delayed_bounds.Goals as goal

pub settle-requires : goal.settle-requires
settle-requires c = (c.requires, settling_none (chip c.args.self.now) c.args.list.now c.none-settled.result c.none-settled.ensures.told c.none-settled.ensures.above)

pub returns : goal.returns
returns c = settled_told (chip c.args.self.now) 0 c.args.list.now c.settle.new.settled c.settle.ensures
