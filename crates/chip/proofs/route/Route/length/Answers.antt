-- Why `Route::length` meets its contract. Assumes nothing.
use Rattle.std.proofs.Common.{ℕ, ◌+◌, ◌<◌, Bool, false, cond, length, get_or, drop, ap, ◌∙◌, arith}
use Rattle.std.proofs.lemmas.List.{at_drop_more, at_drop_all}
use Rattle.std.proofs.lemmas.List.Sums.{sum_by-cons}
use Rattle.chip.specs.Routes.{count}
use Rattle.chip.proofs.Marks.{route_long, flow_count}
use Rattle.chip.proofs.route.Route.length.Goals as goal
use Rattle.chip.proofs.route.Route.length.Goals.{then-mark, else-mark}

pub loop-mark-preserved : goal.loop-mark-preserved
loop-mark-preserved c =
    let route = c.args.self.now in
    let i = c.loop-mark.mark-index in
    let inside : i < length route.marks = omega (arith, ap length route.marked ∙ route_long route.flow.parameters) in
    let next = at_drop_more count route.marks i false inside ∙ sum_by-cons (λ mark. cond mark 1 0) (get_or route.marks i false) (drop (i + 1) route.marks) in
    elim c.if-mark.branch [
      | then-mark w ↦ omega (arith, w.links-is, next, ap {B = ℕ} (λ (b : Bool). cond b 1 0) w.if-mark.true)
      | else-mark w ↦ omega (arith, w.links-is, next, ap {B = ℕ} (λ (b : Bool). cond b 1 0) w.if-mark.false)
    ]

pub returns : goal.returns
returns c =
    let route = c.args.self.now in
    let done = at_drop_all count route.marks c.loop-mark.mark-index (omega (arith, ap length route.marked ∙ route_long route.flow.parameters)) in
    let counted = ap count route.marked in
    record { counted = omega (arith, done, counted); steps = omega (arith, done, counted, flow_count route.flow) }
