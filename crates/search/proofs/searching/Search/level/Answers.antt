-- Why `Search::level` meets its contract. Assumes nothing.
use Rattle.search.proofs.Answered.{level_told}
use Rattle.search.proofs.searching.Search.level.Goals as goal

pub returns : goal.returns
returns g c =
    λ v.
    let s = c.args.self.now in
    level_told (g.R.Rule.meaning s.rule) (g.met.R.Rule.lawful s.rule) s.walk v c.in-Order.bounds c.in-Order.is c.args.k c.if-k-lt1.false c.if-k-self.false
