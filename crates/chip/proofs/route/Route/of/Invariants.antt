use Rattle.std.proofs.Common.{◌-◌}
use Rattle.chip.specs.Routes.{route_marks}
use Rattle.chip.proofs.Walks.{Underway}
use Rattle.chip.proofs.route.Route.of.Given as goal

abbrev pub invariant-loop : goal.invariant-loop
invariant-loop l = Underway (l.end - l.counter) l.here.router l.there.router l.marks (route_marks l.flow.parameters)
