-- Why `search_count` meets its contract: every search is computed. Assumes nothing.
use Rattle.std.proofs.Common.{refl}
use Rattle.chip.specs.Routes.{links, shares}
use Rattle.rule.specs.FlowSets.{first_flows}
use Rattle.rule.specs.Lists.{marks}
use Rattle.interference.specs.Interference.{delayed}
use Rattle.interference.specs.Solution.{least}
use Rattle.walk.specs.Walk.{unplaced, candidates, enter, next, passes, place, after}
use Rattle.figures.specs.Figures.{searches}
use Rattle.figures.proofs.search_count.Goals as goal

pub returns : goal.returns
unfolding searches least delayed shares links marks first_flows unplaced candidates enter next passes place after
returns c =
    record {
      count = refl;
      hold = ((refl, refl), ((refl, refl), ((refl, refl), ((refl, refl), tt))));
    }
