-- Why `Search::write_plan` meets its contract. Assumes nothing.
use Rattle.std.proofs.Common.{ℕ, List, ◌++◌, length, ap, ◌∙◌}
use Rattle.search.specs.Plans.{levels_told, tail_bytes, fit_reply, fit_after}
use Rattle.search.proofs.Answered.{plan_reply_told, plan_after_told}
use Rattle.search.proofs.searching.Search.write_plan.Goals as goal

pub returns-in-Order : goal.returns-in-Order
returns-in-Order g c =
    let s = c.args.self.now in
    let m = g.R.Rule.meaning s.rule in
    let laws = g.met.R.Rule.lawful s.rule in
    let bounds = c.in-Order.bounds in
    let told : List ℕ → List ℕ = λ order. levels_told m order bounds (length order) ++ tail_bytes s.walk.count in
    let buffer = c.args.buffer.now in
    record {
      reply = λ v. plan_reply_told m laws s.walk v bounds c.in-Order.is (length buffer) c.write_order.result (c.write_order.ensures.reply ∙ ap (λ (order : List ℕ). fit_reply (told order) (length buffer)) c.order.ensures);
      after = λ v. plan_after_told m laws s.walk v bounds c.in-Order.is buffer c.write_order.new.buffer (c.write_order.ensures.after ∙ ap (λ (order : List ℕ). fit_after (told order) buffer) c.order.ensures);
    }
