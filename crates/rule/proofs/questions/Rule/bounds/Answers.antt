-- Why `Rule::bounds` meets its contract. Assumes nothing.
use Rattle.std.proofs.Common.{◌≡◌, ℕ, get_or, take, Some, None, refl, arith}
use Rattle.rule.proofs.Told.{sound, list_short, bound_told, all_told, telling_more, telling_ends, telling_all}
use Rattle.rule.proofs.questions.Rule.bounds.Goals as goal

pub returns-in_err-ticks : goal.returns-in_err-ticks
returns-in_err-ticks g c =
    let m = g.Self.Rule.meaning c.args.self.now in
    let xs = c.args.list.now in
    let s = sound xs (g.met.Self.Rule.lawful c.args.self.now) c.flows.ensures c.if-not-is_distinct.ensures in
    let b = bound_told m xs s c.loop-i.i (take c.loop-i.i xs) c.bound.result c.loop-i-test.true refl c.bound.ensures in
    let w = c.in_err-ticks.was in
    let z : ◌≡◌ {A = ℕ} 0 1 = cc in
    absurd (omega arith)

pub returns-in-None : goal.returns-in-None
returns-in-None g c =
    let m = g.Self.Rule.meaning c.args.self.now in
    let xs = c.args.list.now in
    let s = sound xs (g.met.Self.Rule.lawful c.args.self.now) c.flows.ensures c.if-not-is_distinct.ensures in
    let b = bound_told m xs s c.loop-i.i (take c.loop-i.i xs) c.bound.result c.loop-i-test.true refl c.bound.ensures in
    let w = c.in_ok-ticks.was in
    let none : m.bound (get_or xs c.loop-i.i 0) (take c.loop-i.i xs) ≡ None = cc in
    all_told m xs s c.loop-i.told (telling_ends m xs c.loop-i.i c.loop-i.told c.loop-i.invariant c.loop-i-test.true none)

pub loop-i-preserved : goal.loop-i-preserved
loop-i-preserved g c =
    let m = g.Self.Rule.meaning c.args.self.now in
    let xs = c.args.list.now in
    let s = sound xs (g.met.Self.Rule.lawful c.args.self.now) c.flows.ensures c.if-not-is_distinct.ensures in
    let b = bound_told m xs s c.loop-i.i (take c.loop-i.i xs) c.bound.result c.loop-i-test.true refl c.bound.ensures in
    let w = c.in_ok-ticks.was in
    let some : m.bound (get_or xs c.loop-i.i 0) (take c.loop-i.i xs) ≡ Some c.in-Some.ticks = cc in
    rw c.push.ensures
    (telling_more m xs c.loop-i.i c.loop-i.told c.loop-i.invariant c.in-Some.ticks c.loop-i-test.true (omega (arith, list_short m xs s)) some)

pub returns : goal.returns
returns g c =
    let m = g.Self.Rule.meaning c.args.self.now in
    let xs = c.args.list.now in
    let s = sound xs (g.met.Self.Rule.lawful c.args.self.now) c.flows.ensures c.if-not-is_distinct.ensures in
    all_told m xs s c.loop-i.told (telling_all m xs c.loop-i.i c.loop-i.told c.loop-i.invariant c.loop-i-test.false)
