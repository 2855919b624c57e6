-- Why `is_distinct` meets its contract. Assumes nothing.
use Rattle.std.proofs.Common.{◌+◌, false, get_or, take, drop, sym, refl, ◌∙◌, inl, inr, arith}
use Rattle.std.proofs.lemmas.List.{at_drop_more, at_drop_all, take_more, get_or-replicate, length-set}
use Rattle.rule.proofs.Distinct.{left_to_test, test_start, test_new, test_fails, seen_step}
use Rattle.rule.proofs.proper.is_distinct.Goals as goal
use Rattle.rule.proofs.proper.is_distinct.Goals.{then-not-is_flow-via-then-not-is_flow, then-not-is_flow-via-else-not-is_flow+then-seen-g}

pub loop-g-init : goal.loop-g-init
loop-g-init c = (test_start c.args.flows c.args.list.now, refl, λ g h. get_or-replicate 256 g false false h)

pub returns-then-not-is_flow : goal.returns-then-not-is_flow
returns-then-not-is_flow c =
    let xs = c.args.list.now in
    let i = c.loop-g.g-index in
    let e = at_drop_more (left_to_test c.args.flows (take i xs)) xs i 0 c.loop-g-test.true in
    let s = c.loop-g.invariant.2 (get_or xs i 0) (c.type_inv.list i).fits in
    sym (c.loop-g.invariant.0 ∙ e ∙ test_fails c.args.flows (take i xs) (get_or xs i 0) (drop (i + 1) xs)
    (elim c.then-not-is_flow.branch [ then-not-is_flow-via-then-not-is_flow w ↦ inl (sym c.is_flow.ensures ∙ w.if-not-is_flow.true) | then-not-is_flow-via-else-not-is_flow+then-seen-g w ↦ inr (sym s ∙ w.if-seen-g.true) ]))

pub loop-g-preserved : goal.loop-g-preserved
loop-g-preserved c =
    let xs = c.args.list.now in
    let i = c.loop-g.g-index in
    let x = get_or xs i 0 in
    let e = at_drop_more (left_to_test c.args.flows (take i xs)) xs i 0 c.loop-g-test.true in
    let s = c.loop-g.invariant.2 x (c.type_inv.list i).fits in
    let d = test_new c.args.flows (take i xs) x (drop (i + 1) xs) (sym c.if-not-is_flow.ensures) (sym s ∙ c.if-seen-g.false) in
    rw (take_more xs i 0 c.loop-g-test.true)
    (c.loop-g.invariant.0 ∙ e ∙ d, length-set _ _ _ ∙ c.loop-g.invariant.1, seen_step c.loop-g.seen (take i xs) x (omega (arith, (c.type_inv.list i).fits)) c.loop-g.invariant.2)

pub returns : goal.returns
returns c =
    sym (c.loop-g.invariant.0 ∙ at_drop_all (left_to_test c.args.flows (take c.loop-g.g-index c.args.list.now)) c.args.list.now c.loop-g.g-index c.loop-g-test.false)
