-- Why `jitters` meets its contract. Assumes nothing.
use Rattle.std.proofs.Common.{arith}
use Rattle.rule.specs.FlowSets.{marks_of, members, flows_left}
use Rattle.rule.proofs.FlowSets.{next_flow}
use Rattle.interference.proofs.Jitters.{filled_more}
use Rattle.latency.proofs.Sums.{members_some}
use Rattle.latency.proofs.jitters.jitters.Goals as goal

pub overflow_sub-extra : goal.overflow_sub-extra
overflow_sub-extra g c = omega (arith, next_flow c.loop-j.j-iterator c.in-Some.j (flows_left c.next.new.self) c.in-Some.ensures.steps)

pub bounds-extra-j : goal.bounds-extra-j
bounds-extra-j g c = omega (arith, next_flow c.loop-j.j-iterator c.in-Some.j (flows_left c.next.new.self) c.in-Some.ensures.steps)

pub loop-j-preserved : goal.loop-j-preserved
loop-j-preserved g c =
    let all = members (marks_of c.args.counted) in
    let before = flows_left c.loop-j.j-iterator in
    let after = flows_left c.next.new.self in
    let e = c.in-Some.ensures.steps in
    let range = next_flow c.loop-j.j-iterator c.in-Some.j after e in
    filled_more (λ j extra. goal.F-post g c.args.jitter j extra) all before after c.loop-j.extra c.in-Some.j c.jitter.result e range.0 range.1 (members_some (marks_of c.args.counted)) c.jitter.ensures (c.requires.few c.in-Some.j c.jitter.result c.jitter.ensures) c.loop-j.invariant
