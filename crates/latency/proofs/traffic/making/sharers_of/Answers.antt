-- Why `sharers_of` meets its contract. Assumes nothing.
use Rattle.std.proofs.Common.{◌≡◌, ◌+◌, Bool, true, false, sym, ap, ap₂, ◌∙◌, arith}
use Rattle.chip.specs.Routes.{shares}
use Rattle.rule.specs.FlowSets.{marks_of, put}
use Rattle.interference.specs.Interference.{share}
use Rattle.interference.specs.Tables.{routed}
use Rattle.interference.proofs.Sharers.{routed_at, sharers_more}
use Rattle.latency.proofs.traffic.making.sharers_of.Goals as goal
use Rattle.latency.proofs.traffic.making.sharers_of.Goals.{then-shares, else-shares}

pub loop-g-preserved : goal.loop-g-preserved
loop-g-preserved c =
    λ f same.
    let fs = routed c.args.routes.now in
    let g = c.loop-g.g in
    let shared : (b : Bool) → c.shares.result ≡ b → share fs (g + 1) f ≡ b =
    λ b e. ap₂ shares (routed_at c.args.routes.now g c.index-routes-g.result (omega arith) ∙ ap (λ r. r.flow.parameters) (sym c.index-routes-g.is)) same ∙ sym c.shares.ensures.value ∙ e in
    elim c.if-shares.branch [
      | then-shares w ↦ ap marks_of w.set-is ∙ w.with-set.ensures ∙ ap (λ s. put s (g + 1) true) (c.loop-g.invariant f same) ∙ sym (sharers_more fs f g true (shared true w.if-shares.true))
      | else-shares w ↦ ap marks_of w.set-is ∙ c.loop-g.invariant f same ∙ sym (sharers_more fs f g false (shared false w.if-shares.false))
    ]
