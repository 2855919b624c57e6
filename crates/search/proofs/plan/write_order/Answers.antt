-- Why there is room for what follows the levels, and what is written. Assumes nothing.
use Rattle.std.proofs.Common.{◌≡◌, ℕ, List, ◌++◌, length, ap, ◌∙◌, subst, OnOk, arith}
use Rattle.search.specs.Plans.{fit_after, levels_told}
use Rattle.search.proofs.Planned.{levels_length, order_short}
use Rattle.search.proofs.plan.write_order.Goals as goal

pub returns-then-buffer-order : goal.returns-then-buffer-order
returns-then-buffer-order g c =
    let p = order_short (g.R.Rule.meaning c.args.rule.now) c.args.order.now c.args.bounds.now c.args.count c.args.buffer.now c.if-buffer-order.true in
    record { reply = p.0; after = p.1 }

pub unwrap-requires : goal.unwrap-requires
unwrap-requires g c =
    let long = levels_length (g.R.Rule.meaning c.args.rule.now) c.args.order.now c.args.bounds.now (length c.args.order.now) in
    c.extend.ensures.reply.1 (omega (arith, ap length c.levels-plan.ensures, long, c.requires))

pub returns-clause-after : goal.returns-clause-after
returns-clause-after g c =
    let told : c.extend.new.self.items ≡ c.levels-plan.result.items ++ c.tail_fields.result = subst (λ r. OnOk r (c.extend.new.self.items ≡ c.levels-plan.result.items ++ c.tail_fields.result)) c.unwrap.ensures c.extend.ensures.ok in
    let laid = told ∙ ap (λ (bytes : List ℕ). bytes ++ c.tail_fields.result) c.levels-plan.ensures ∙ ap (λ (bytes : List ℕ). levels_told (g.R.Rule.meaning c.args.rule.now) c.args.order.now c.args.bounds.now (length c.args.order.now) ++ bytes) c.tail_fields.ensures in
    c.copied.ensures.after ∙ ap (λ (bytes : List ℕ). fit_after bytes c.args.buffer.now) laid
