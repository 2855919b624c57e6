-- What the loop of `Walk::move_on` keeps, and why it ends. Assumes nothing.
use Rattle.std.proofs.Common.{◌≡◌, ◌-◌, ◌≤◌}
use Rattle.search.specs.declared.tables.Stage.TheVariants.{Open}
use Rattle.search.specs.Tables.{SameTables, moving}
use Rattle.search.proofs.tables.Walk.move_on.Given as goal

abbrev pub invariant-loop-self : goal.invariant-loop-self
invariant-loop-self l =
    SameTables l.initial.self l.self
    × (l.initial.self.level ≤ l.self.level)
    × (l.self.stage ≡ l.initial.self.stage)
    × (l.initial.self.stage ≡ Open → moving l.self ≡ moving l.initial.self)

abbrev pub decreases-loop-self : goal.decreases-loop-self
decreases-loop-self l = l.self.flows - l.self.level
