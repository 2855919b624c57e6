-- Why `run` meets its contract. Assumes nothing.
use Rattle.std.proofs.Common.{◌≡◌, get_or, take, sym, refl, ap, ◌∙◌, subst, arith}
use Rattle.std.proofs.lemmas.List.{get_or-take, length-take}
use Rattle.runs.specs.declared.calls.Call.TheVariants.{Advance}
use Rattle.rule.specs.Meaning.{Meaning}
use Rattle.std.specs.Option.{option_map}
use Rattle.runs.specs.Runs.{rival_of}
use Rattle.search.specs.Searches.{Walked}
use Rattle.search.specs.Tables.{standing}
use Rattle.walk.specs.Walk.{after}
use Rattle.runs.proofs.Kept.{running_none, running_more, made_under, end_walked, end_ran, end_promise}
use Rattle.runs.proofs.running.run.Goals as goal

pub loop-i-init : goal.loop-i-init
loop-i-init g c =
    let s = c.open-search.result in
    let e = sym (ap g.R.Rule.meaning c.open-search.ensures.held) in (
      refl,
      running_none (g.R.Rule.meaning s.rule) (rival_of g.Q.Rule.meaning (option_map (λ x. x.now) c.args.other)) c.args.calls.now c.args.replies.now c.args.plan.now s.walk
          (subst (λ (m : Meaning). Walked m s.walk) e c.open-search.ensures.walked)
          (subst (λ (m : Meaning). standing s.walk ≡ after m 0) e c.open-search.ensures.stands),
    )

pub loop-i-preserved : goal.loop-i-preserved
loop-i-preserved g c =
    let s = c.open-search.result in
    let m = g.R.Rule.meaning s.rule in
    let other = rival_of g.Q.Rule.meaning (option_map (λ x. x.now) c.args.other) in
    let calls = c.args.calls.now in
    let i = c.loop-i.i in
    let w = c.loop-i.search.walk in
    let next = c.make.new.search.walk in
    let e = ap g.R.Rule.meaning c.loop-i.invariant.0 in
    let b = c.min-made.ensures in
    let l = length-take c.min-made.result calls in
    let t = c.loop-i-test.true in
    let call = get_or (take c.min-made.result calls) i (Advance 0) in (
      c.make.ensures.held ∙ c.loop-i.invariant.0,
      running_more m (g.met.R.Rule.lawful s.rule) other calls c.args.replies.now c.args.plan.now c.loop-i.replies c.loop-i.plan w i c.loop-i.invariant.1 call (get_or-take c.min-made.result calls i (Advance 0) (omega arith)) (omega arith) (omega arith) next c.make.new.plan c.make.result
          (made_under (g.R.Rule.meaning c.loop-i.search.rule) m other call w next c.loop-i.plan c.make.new.plan c.make.result e c.make.ensures.made)
          c.make.auto.plan,
    )

pub returns : goal.returns
returns g c =
    let s = c.open-search.result in
    let m = g.R.Rule.meaning s.rule in
    let n = g.R.Rule.meaning c.args.rule in
    let laws = g.met.R.Rule.lawful c.args.rule in
    let other = rival_of g.Q.Rule.meaning (option_map (λ x. x.now) c.args.other) in
    let e = ap g.R.Rule.meaning c.open-search.ensures.held in
    let i = c.loop-i.i in
    let b = c.min-made.ensures in
    let l = length-take c.min-made.result c.args.calls.now in
    let t = c.loop-i-test.false in
    let u = c.loop-i.auto.i-end in
    record {
      held = c.loop-i.invariant.0 ∙ c.open-search.ensures.held;
      walked = end_walked m n e laws other c.args.calls.now c.args.replies.now c.args.plan.now c.loop-i.replies c.loop-i.plan c.loop-i.search.walk i c.loop-i.invariant.1 (omega arith);
      ran = end_ran m n e laws other c.args.calls.now c.args.replies.now c.args.plan.now c.loop-i.replies c.loop-i.plan c.loop-i.search.walk i c.loop-i.invariant.1 (omega arith);
      promise = end_promise m n e laws other c.args.calls.now c.args.replies.now c.args.plan.now c.loop-i.replies c.loop-i.plan c.loop-i.search.walk i c.loop-i.invariant.1 (omega arith);
    }
