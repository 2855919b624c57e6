-- Why `Pairs::hold_back` meets its contract. Assumes nothing.
use Rattle.std.proofs.Common.{Bool, not, ◌&&◌, List, sym, ap, ◌∙◌}
use Rattle.rule.specs.Lists.{has}
use Rattle.rule.specs.FlowSets.{marks_of, empty, both}
use Rattle.rule.proofs.Distinct.{flow_range}
use Rattle.rule.proofs.FlowSets.{marks_of_length}
use Rattle.precedence.specs.Pairs.{held_back, laters}
use Rattle.precedence.proofs.Paired.{table_at, meets}
use Rattle.precedence.proofs.pairs.Pairs.hold_back.Goals as goal

pub returns-then-is_flow : goal.returns-then-is_flow
returns-then-is_flow c =
    let s = c.args.self.now in
    let f = c.args.f in
    let ps = s.list.items in
    let flow = sym c.if-is_flow.ensures in
    let r = flow_range 20 f flow in
    c.intersects.ensures
    ∙ ap (λ (x : List Bool). not (empty (both x (marks_of c.args.others)))) (table_at s.later ps s.agree f _ r.0 r.1)
    ∙ meets (laters ps f) (marks_of c.args.others) (marks_of_length c.args.others)
    ∙ ap (λ (b : Bool). b && held_back ps f (has (marks_of c.args.others))) (sym flow)
