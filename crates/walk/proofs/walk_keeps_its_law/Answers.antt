-- Why the walk keeps its law. Assumes nothing.
use Rattle.walk.proofs.Lawfully.{walk_law}
use Rattle.walk.proofs.walk_keeps_its_law.Goals as goal

pub returns : goal.returns
returns c = walk_law
