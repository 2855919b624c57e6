use Rattle.std.proofs.Common.{refl}
use Rattle.chip.specs.Routes.{no_marks}
use Rattle.chip.proofs.route.no_marks.Goals as goal

pub returns : goal.returns
unfolding no_marks
returns c = refl
