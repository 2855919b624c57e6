-- Why `Walk::test` meets its contract. Assumes nothing.
use Rattle.std.proofs.Common.{◌≡◌, refl, sym, ap, ◌∙◌, arith}
use Rattle.rule.specs.declared.bounds.Bounds.{Bounds}
use Rattle.rule.specs.Questions.{asked_bounds}
use Rattle.search.proofs.Opened.{tested_true, tested_false}
use Rattle.search.proofs.tables.Walk.test.Goals as goal
use Rattle.search.proofs.tables.Walk.test.Goals.{in_default-via-in-Ok+else-told-self, in_default-via-in_default}

pub returns-in-Ok : goal.returns-in-Ok
returns-in-Ok g c =
    let m = g.R.Rule.meaning c.args.rule.now in
    record {
      flows = refl;
      level = refl;
      placed = refl;
      candidates = refl;
      count = refl;
      passed = λ d. tested_true m c.args.self.now c.bounds.result (c.bounds.ensures ∙ ap (asked_bounds m) c.order.ensures) d c.in-Ok.told c.args.self.now.sure c.in-Ok.is (omega (arith, c.if-told-self.true));
    }

pub returns-in_default : goal.returns-in_default
returns-in_default g c =
    let m = g.R.Rule.meaning c.args.rule.now in
    record {
      flows = refl;
      level = refl;
      placed = refl;
      candidates = refl;
      count = refl;
      passed = λ d. tested_false m c.args.self.now c.bounds.result (c.bounds.ensures ∙ ap (asked_bounds m) c.order.ensures) d
          (λ b o e. elim c.in_default.branch [
            | in_default-via-in-Ok+else-told-self w ↦ w.if-told-self.false (let q : w.in-Ok.told ≡ b = let p = sym w.in-Ok.is ∙ o in cc in ap (λ (t : Bounds). t.count) q ∙ e)
            | in_default-via-in_default w ↦ w.in_default.not-Ok b o
          ]);
    }
