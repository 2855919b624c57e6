-- Why `Settled::place` meets its contract. Assumes nothing.
use Rattle.std.proofs.Common.{◌-◌}
use Rattle.std.proofs.lemmas.List.{map-set}
use Rattle.latency.proofs.settled.Settled.place.Goals as goal

pub returns-clause-over : goal.returns-clause-over
returns-clause-over c = map-set (λ x. x.over) c.args.self.now.table (c.args.f - 1) _

pub returns-clause-bounds : goal.returns-clause-bounds
returns-clause-bounds c = map-set (λ x. x.bound) c.args.self.now.table (c.args.f - 1) _
