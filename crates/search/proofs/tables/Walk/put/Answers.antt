-- Why `Walk::put` meets its contract. Assumes nothing.
use Rattle.std.proofs.Common.{◌-◌, get_or, refl}
use Rattle.search.specs.declared.candidates.Candidates.{Candidates}
use Rattle.search.proofs.Tabled.{put_untried, put_slacks}
use Rattle.search.proofs.tables.Walk.put.Goals as goal

pub returns : goal.returns
returns c =
    let w = c.args.self.now in
    let d = c.index-self-k-2.result in
    let left : Candidates = record { set = c.without.result; slack = (get_or w.candidates (w.level - 1) d).slack } in
    record {
      flows = refl;
      level = refl;
      sure = refl;
      placed = refl;
      untried = put_untried w c.index-self-k.result left c.args.f c.without.ensures;
      slack = put_slacks w d left refl;
      count = c.saturating_add-self.ensures;
      stage = refl;
    }
