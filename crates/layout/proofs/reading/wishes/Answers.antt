use Rattle.layout.proofs.reading.wishes.Goals as goal

pub returns : goal.returns
returns c from u w = let told = c.in_ok-next.ensures in c.in_ok-pairs.ensures from (told.cases from u) (told.which w)
