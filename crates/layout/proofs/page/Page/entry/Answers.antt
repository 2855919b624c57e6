use Rattle.std.proofs.lemmas.List.{append_assoc}
use Rattle.layout.proofs.page.Page.entry.Goals as goal

pub returns-in-Flow : goal.returns-in-Flow
returns-in-Flow c = rw (c.flow.ensures, c.head.ensures, c.tag.ensures, c.in-Flow.is) (simp append_assoc)
