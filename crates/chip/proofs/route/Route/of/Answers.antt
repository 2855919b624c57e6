use native.Mathlib.Nat.{sub-zero}
use Rattle.chip.proofs.Walks.{sets_out, goes_on}
use Rattle.chip.proofs.route.Route.of.Goals as goal

pub loop-init : goal.loop-init
loop-init c =
    simp (sub-zero, c.distance-end.ensures, c.no_marks-marks.ensures, c.link.ensures.value, c.source-here.ensures, c.destination-there.ensures) (sets_out c.args.flow.parameters)

pub loop-preserved : goal.loop-preserved
loop-preserved c =
    simp (c.toward-here.ensures, c.link-in-loop.ensures.value, c.onward.ensures) (goes_on _ _ _ _ _ _ c.loop-test.true c.loop.invariant)
