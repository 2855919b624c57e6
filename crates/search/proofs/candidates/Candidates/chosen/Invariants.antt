-- What the loop of `Candidates::chosen` keeps. Assumes nothing.
use Rattle.std.proofs.Common.{◌≡◌, ◌≤◌}
use Rattle.rule.specs.FlowSets.{flows_left}
use Rattle.walk.specs.Choice.{best}
use Rattle.search.specs.Candidates.{entry_of}
use Rattle.search.proofs.candidates.Candidates.chosen.Given as goal

abbrev pub invariant-loop-f : goal.invariant-loop-f
invariant-loop-f l =
    (best (entry_of l.self.slack) l.initial.best (flows_left l.initial.f-iterator) ≡ best (entry_of l.self.slack) l.best (flows_left l.f-iterator))
    × (1 ≤ l.best)
    × (l.best ≤ 20)
