-- Why `PrecedenceRule::bounds` meets its contract. Assumes nothing.
use Rattle.std.proofs.Common.{length, arith}
use Rattle.std.proofs.lemmas.List.{length_push}
use Rattle.rule.specs.FlowSets.{marks_of}
use Rattle.rule.proofs.Below.{bounds_below, bounds_most}
use Rattle.rule.proofs.Beside.{beside, beside_end}
use Rattle.rule.proofs.Members.{marks_with}
use Rattle.precedence.specs.Held.{pairs_of}
use Rattle.precedence.specs.Preceded.{paired_more, paired_end, paired_all}
use Rattle.precedence.proofs.precedence.PrecedenceRule.bounds.Goals as goal

pub returns-then-hold_back : goal.returns-then-hold_back
returns-then-hold_back g c =
    let m = g.R.Rule.meaning c.args.self.now.rule in
    let ps = pairs_of c.args.self.now.pairs in
    let xs = c.args.list.now in
    let bs = c.as_slice.result.now in
    let s = bounds_below xs c.in_ok-below.below bs (g.met.R.Rule.lawful c.args.self.now.rule) c.in_ok-below.ensures c.as_slice.ensures in
    let at = beside xs bs c.loop-f.yielded c.into_iter-f-iterator.result c.loop-f.f-iterator c.next.new.self c.next.result (cc) (cc) c.loop-f.yielded_by c.next.ensures.steps (c.in-Some.f, c.in-Some.ticks) c.in-Some.is in
    paired_end ps m xs bs s _ c.loop-f.told c.loop-f.invariant.0 _ _ at (marks_of c.loop-f.above) c.loop-f.invariant.1 c.hold_back.result c.hold_back.ensures c.if-hold_back.true

pub loop-f-preserved : goal.loop-f-preserved
loop-f-preserved g c =
    let m = g.R.Rule.meaning c.args.self.now.rule in
    let ps = pairs_of c.args.self.now.pairs in
    let xs = c.args.list.now in
    let bs = c.as_slice.result.now in
    let s = bounds_below xs c.in_ok-below.below bs (g.met.R.Rule.lawful c.args.self.now.rule) c.in_ok-below.ensures c.as_slice.ensures in
    let at = beside xs bs c.loop-f.yielded c.into_iter-f-iterator.result c.loop-f.f-iterator c.next.new.self c.next.result (cc) (cc) c.loop-f.yielded_by c.next.ensures.steps (c.in-Some.f, c.in-Some.ticks) c.in-Some.is in
    let i = length c.loop-f.yielded in
    rw (c.push.ensures, length_push c.loop-f.yielded (c.in-Some.f, c.in-Some.ticks)) (
      paired_more ps m xs bs s i c.loop-f.told c.loop-f.invariant.0 _ _ at (marks_of c.loop-f.above) c.loop-f.invariant.1 c.hold_back.result c.hold_back.ensures c.if-hold_back.false,
      rw c.with-above.ensures (marks_with (marks_of c.loop-f.above) xs i c.in-Some.f.now c.loop-f.invariant.1 at.flow (omega (arith, at.more, (bounds_most m xs bs s).0))),
    )

pub returns : goal.returns
returns g c =
    let m = g.R.Rule.meaning c.args.self.now.rule in
    let ps = pairs_of c.args.self.now.pairs in
    let xs = c.args.list.now in
    let bs = c.as_slice.result.now in
    let s = bounds_below xs c.in_ok-below.below bs (g.met.R.Rule.lawful c.args.self.now.rule) c.in_ok-below.ensures c.as_slice.ensures in
    paired_all ps m xs bs s _ c.loop-f.told c.loop-f.invariant.0
    (beside_end xs bs c.loop-f.yielded c.into_iter-f-iterator.result c.loop-f.f-iterator c.next.new.self c.next.result (cc) (cc) c.loop-f.yielded_by c.next.ensures.steps m s c.in-None.is)
