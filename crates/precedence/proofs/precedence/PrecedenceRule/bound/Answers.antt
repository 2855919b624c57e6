-- Why `PrecedenceRule::bound` meets its contract. Assumes nothing.
use Rattle.std.proofs.Common.{ℕ, sym, ap, ◌∙◌, inl, inr}
use Rattle.rule.specs.FlowSets.{marks_of}
use Rattle.rule.specs.Lists.{proper}
use Rattle.precedence.specs.Held.{pairs_of}
use Rattle.precedence.specs.Preceded.{bound_held, bound_below}
use Rattle.precedence.proofs.precedence.PrecedenceRule.bound.Goals as goal
use Rattle.precedence.proofs.precedence.PrecedenceRule.bound.Goals.{else-hold_back-via-then-hold_back+else-is_proper, else-hold_back-via-else-hold_back}

pub returns-then-is_proper : goal.returns-then-is_proper
returns-then-is_proper g c =
    bound_held (pairs_of c.args.self.now.pairs) (g.R.Rule.meaning c.args.self.now.rule) (g.met.R.Rule.lawful c.args.self.now.rule) c.args.f c.args.above.now (marks_of c.of.result) c.of.ensures c.hold_back.result c.hold_back.ensures c.if-hold_back.true
    (ap (λ (n : ℕ). proper n c.args.f c.args.above.now) (sym c.flows.ensures) ∙ sym c.is_proper.ensures ∙ c.if-is_proper.true)

pub returns : goal.returns
returns g c =
    bound_below (pairs_of c.args.self.now.pairs) (g.R.Rule.meaning c.args.self.now.rule) (g.met.R.Rule.lawful c.args.self.now.rule) c.args.f c.args.above.now (marks_of c.of.result) c.of.ensures c.hold_back.result c.hold_back.ensures
    (elim c.else-hold_back.branch [
      | else-hold_back-via-then-hold_back+else-is_proper w ↦ inr (ap (λ (n : ℕ). proper n c.args.f c.args.above.now) (sym w.flows.ensures) ∙ sym w.is_proper.ensures ∙ w.if-is_proper.false)
      | else-hold_back-via-else-hold_back w ↦ inl w.if-hold_back.false
    ])
    c.bound.result c.bound.ensures
