-- Why `Walk::move_on` meets its contract. Assumes nothing.
use Rattle.std.proofs.Common.{sym, ◌∙◌, arith}
use Rattle.search.proofs.Tabled.{back_stands, stay_stands}
use Rattle.search.proofs.tables.Walk.move_on.Goals as goal

pub loop-self-preserved : goal.loop-self-preserved
loop-self-preserved c =
    let w = c.loop-self.self in
    let i = c.loop-self.invariant in
    let s = i.0 in (
      record { flows = s.flows; placed = s.placed; candidates = s.candidates; count = s.count },
      omega (arith, i.1),
      i.2,
      λ o. back_stands w (sym c.loop-self-test.ensures) c.if-self.false ∙ i.3 o,
    )

pub returns : goal.returns
returns c =
    let w = c.loop-self.self in
    let i = c.loop-self.invariant in
    record {
      same = i.0;
      lower = i.1;
      stands = λ o. stay_stands w (i.2 ∙ o) (sym c.loop-self-test.ensures) ∙ i.3 o;
      kept_order = λ bounds o. i.2 ∙ o;
      was_order = λ bounds o. sym i.2 ∙ o;
    }
