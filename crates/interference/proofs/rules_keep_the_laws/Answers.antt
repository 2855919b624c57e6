-- Why each rule keeps the laws. Assumes nothing.
use Rattle.interference.proofs.LawsOfD.{lawful_D}
use Rattle.interference.proofs.LawsOfJ.{lawful_J}
use Rattle.interference.proofs.LawsOfL.{lawful_L}
use Rattle.interference.proofs.rules_keep_the_laws.Goals as goal

pub returns : goal.returns
returns c = λ fs some few. (lawful_D fs some few, lawful_J fs some few, lawful_L fs some few)
