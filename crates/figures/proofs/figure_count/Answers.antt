-- Why `figure_count` meets its contract: every figure is computed. Assumes nothing.
use Rattle.std.proofs.Common.{refl}
use Rattle.chip.specs.Routes.{links, shares}
use Rattle.rule.specs.FlowSets.{first_flows}
use Rattle.rule.specs.Lists.{marks}
use Rattle.interference.specs.Interference.{delayed}
use Rattle.interference.specs.Solution.{least}
use Rattle.figures.specs.Figures.{figures}
use Rattle.figures.proofs.figure_count.Goals as goal

pub returns : goal.returns
unfolding figures least delayed shares links marks first_flows
returns c =
    record {
      count = refl;
      hold = (refl, (refl, (refl, (refl, (refl, (refl, (refl, (refl, (refl, (refl, (refl, tt)))))))))));
    }
