use Rattle.std.proofs.Common.{◌≡◌, true, length}
use Rattle.sheet.specs.Sheets.{drafted}
use Rattle.sheet.specs.declared.letter.Letter.{Letter}
use Rattle.layout.specs.declared.entry.Stage.TheVariants.{Flows}
use Rattle.layout.specs.Faults.{allows}
use Rattle.layout.specs.Layout.{tag_of}
use Rattle.layout.specs.Progress.{flows_alone, Underway}
use Rattle.layout.specs.Reading.{State}
use Rattle.layout.proofs.reading.flows.Given as goal

abbrev pub invariant-loop-next : goal.invariant-loop-next
invariant-loop-next l =
    (allows Flows (tag_of l.initial.next) ≡ true → allows Flows (tag_of l.next) ≡ true)
    × ((from : State) (x : Letter) → Underway from l.initial.reader (flows_alone x (drafted l.initial.draft)) l.initial.next → Underway from l.reader (flows_alone x (drafted l.draft)) l.next)

abbrev pub decreases-loop-next : goal.decreases-loop-next
decreases-loop-next l = length l.reader.left
