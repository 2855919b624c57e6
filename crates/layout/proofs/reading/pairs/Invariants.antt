use Rattle.std.proofs.Common.{length}
use Rattle.job.specs.Jobs.{contents}
use Rattle.layout.specs.Progress.{Underway, LastWish}
use Rattle.layout.specs.Reading.{State}
use Rattle.layout.proofs.reading.pairs.Given as goal

abbrev pub invariant-loop-next : goal.invariant-loop-next
invariant-loop-next l =
    (LastWish l.initial.next → LastWish l.next)
    × ((from : State) → Underway from l.initial.reader (contents l.initial.job) l.initial.next → Underway from l.reader (contents l.job) l.next)

abbrev pub decreases-loop-next : goal.decreases-loop-next
decreases-loop-next l = length l.reader.left
