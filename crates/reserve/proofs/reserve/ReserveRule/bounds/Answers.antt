-- Why `ReserveRule::bounds` meets its contract. Assumes nothing.
use Rattle.std.proofs.Common.{◌≡◌, ℕ, arith}
use Rattle.std.proofs.lemmas.List.{length_push}
use Rattle.rule.proofs.Below.{bounds_below}
use Rattle.rule.proofs.Beside.{beside, beside_end}
use Rattle.reserve.specs.Reserved.{raised, raised_more, raised_ends, raised_all}
use Rattle.reserve.proofs.reserve.ReserveRule.bounds.Goals as goal

pub returns-in_err-ticks : goal.returns-in_err-ticks
returns-in_err-ticks g c =
    let m = g.R.Rule.meaning c.args.self.now.rule in
    let xs = c.args.list.now in
    let bs = c.as_slice.result.now in
    let t = c.args.self.now.ticks.count in
    let s = bounds_below xs c.in_ok-below.below bs (g.met.R.Rule.lawful c.args.self.now.rule) c.in_ok-below.ensures c.as_slice.ensures in
    let at = beside xs bs c.loop-f.yielded c.into_iter-f-iterator.result c.loop-f.f-iterator c.next.new.self c.next.result (cc) (cc) c.loop-f.yielded_by c.next.ensures.steps (c.in-Some.f, c.in-Some.ticks) c.in-Some.is in
    let b = raised t m xs bs s _ _ _ at c.raise.result c.raise.ensures in
    let w = c.in_err-ticks.was in
    let z : ◌≡◌ {A = ℕ} 0 1 = cc in
    absurd (omega arith)

pub returns-in-None-2 : goal.returns-in-None-2
returns-in-None-2 g c =
    let m = g.R.Rule.meaning c.args.self.now.rule in
    let xs = c.args.list.now in
    let bs = c.as_slice.result.now in
    let t = c.args.self.now.ticks.count in
    let s = bounds_below xs c.in_ok-below.below bs (g.met.R.Rule.lawful c.args.self.now.rule) c.in_ok-below.ensures c.as_slice.ensures in
    let at = beside xs bs c.loop-f.yielded c.into_iter-f-iterator.result c.loop-f.f-iterator c.next.new.self c.next.result (cc) (cc) c.loop-f.yielded_by c.next.ensures.steps (c.in-Some.f, c.in-Some.ticks) c.in-Some.is in
    let b = raised t m xs bs s _ _ _ at c.raise.result c.raise.ensures in
    let w = c.in_ok-ticks.was in
    raised_ends t m xs bs s _ c.loop-f.told c.loop-f.invariant at.more (cc)

pub loop-f-preserved : goal.loop-f-preserved
loop-f-preserved g c =
    let m = g.R.Rule.meaning c.args.self.now.rule in
    let xs = c.args.list.now in
    let bs = c.as_slice.result.now in
    let t = c.args.self.now.ticks.count in
    let s = bounds_below xs c.in_ok-below.below bs (g.met.R.Rule.lawful c.args.self.now.rule) c.in_ok-below.ensures c.as_slice.ensures in
    let at = beside xs bs c.loop-f.yielded c.into_iter-f-iterator.result c.loop-f.f-iterator c.next.new.self c.next.result (cc) (cc) c.loop-f.yielded_by c.next.ensures.steps (c.in-Some.f, c.in-Some.ticks) c.in-Some.is in
    let b = raised t m xs bs s _ _ _ at c.raise.result c.raise.ensures in
    let w = c.in_ok-ticks.was in
    rw (c.push.ensures, length_push c.loop-f.yielded (c.in-Some.f, c.in-Some.ticks))
    (raised_more t m xs bs s _ c.loop-f.told c.loop-f.invariant at.more c.in-Some-2.ticks (cc))

pub returns : goal.returns
returns g c =
    let m = g.R.Rule.meaning c.args.self.now.rule in
    let xs = c.args.list.now in
    let bs = c.as_slice.result.now in
    let s = bounds_below xs c.in_ok-below.below bs (g.met.R.Rule.lawful c.args.self.now.rule) c.in_ok-below.ensures c.as_slice.ensures in
    raised_all c.args.self.now.ticks.count m xs bs s _ c.loop-f.told c.loop-f.invariant
    (beside_end xs bs c.loop-f.yielded c.into_iter-f-iterator.result c.loop-f.f-iterator c.next.new.self c.next.result (cc) (cc) c.loop-f.yielded_by c.next.ensures.steps m s c.in-None.is)
