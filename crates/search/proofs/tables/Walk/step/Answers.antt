-- Why `Walk::step` meets its contract. Assumes nothing.
use Rattle.std.proofs.Common.{◌≡◌, subst, sym, refl, ◌∙◌}
use Rattle.search.specs.declared.tables.Walk.{Walk}
use Rattle.search.specs.Tables.{MovedOn}
use Rattle.search.proofs.Stepping.{next_tells, descended_stands, descended_walked, tried_stands, tried_walked, stayed}
use Rattle.search.proofs.tables.Walk.step.Goals as goal
use Rattle.search.proofs.tables.Walk.step.Goals.{then-self-eq1, else-self-eq1}

pub returns-in_default : goal.returns-in_default
returns-in_default g c =
    let w = c.args.self.now in
    record { walked = λ v. v; stands = λ v. stayed (g.R.Rule.meaning c.args.rule.now) (g.met.R.Rule.lawful c.args.rule.now) w v c.in_default.ensures }

pub returns : goal.returns
returns g c =
    let m = g.R.Rule.meaning c.args.rule.now in
    let laws = g.met.R.Rule.lawful c.args.rule.now in
    let w = c.args.self.now in
    let f = c.in-Some.f in
    let x = c.put.new.self in
    let t = c.move_on.new.self in
    let o = next_tells w f c.in-Some.ensures in
    elim c.if-self-eq1.branch [
      | then-self-eq1 b ↦
          let k = subst (λ (y : Walk). MovedOn y t) b.self-is c.move_on.ensures in
          let one : w.level ≡ 1 = sym c.put.ensures.level ∙ b.if-self-eq1.true in
          record {
            walked = λ v. tried_walked m laws w v o.0 f o.1 x c.put.ensures one b.test.new.self b.test.ensures t k;
            stands = λ v. tried_stands m laws w v o.0 f o.1 x c.put.ensures one b.test.new.self b.test.ensures t k;
          }
      | else-self-eq1 b ↦
          let k = subst (λ (y : Walk). MovedOn y t) b.self-is c.move_on.ensures in
          let up : w.level ≡ 1 → ⊥ = λ e. b.if-self-eq1.false (c.put.ensures.level ∙ e) in
          record {
            walked = λ v. descended_walked m laws w v o.0 f o.1 x c.put.ensures up _ (record { flows = refl; level = refl; sure = refl; placed = refl; candidates = refl; count = refl; stage = refl }) b.enter.new.self b.enter.ensures t k;
            stands = λ v. descended_stands m laws w v o.0 f o.1 x c.put.ensures up _ (record { flows = refl; level = refl; sure = refl; placed = refl; candidates = refl; count = refl; stage = refl }) b.enter.new.self b.enter.ensures t k;
          }
    ]
