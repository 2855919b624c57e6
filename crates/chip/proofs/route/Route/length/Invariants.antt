use Rattle.std.proofs.Common.{◌≡◌, ◌+◌, ◌≤◌, drop}
use Rattle.chip.specs.Routes.{count}
use Rattle.chip.proofs.route.Route.length.Given as goal

abbrev pub invariant-loop-mark : goal.invariant-loop-mark
invariant-loop-mark l = (l.links ≤ l.mark-index) × (l.links + count (drop l.mark-index l.self.marks) ≡ count l.self.marks)
