-- Why `searched` meets its contract. Assumes nothing.
use Rattle.std.proofs.Common.{◌≡◌, length, sym, ap, ◌∙◌, subst, refl, rules}
use Rattle.precedence.specs.declared.precedence.Precedence.{Precedence}
use Rattle.reserve.specs.declared.reserve.Reserve.{Reserve}
use Rattle.any_rule.specs.declared.any_rule.AnyRule.{AnyRule}
use Rattle.walk.specs.Walk.{State}
use Rattle.search.specs.Plans.{plan_reply, plan_after}
use Rattle.search.specs.Searches.{Walked}
use Rattle.search.specs.Tables.{standing}
use Rattle.planner.specs.JobRules.{judged}
use Rattle.planner.specs.Calls.{fault_of, length_of}
use Rattle.planner.proofs.planning.searched.Goals as goal
use Rattle.planner.proofs.planning.searched.Goals.{in-Ok, in-Err}

pub returns-clause-reply : goal.returns-clause-reply
returns-clause-reply c =
    let s = c.advanced-search.result in
    let x = c.write_plan.result in
    let Walks : Precedence (Reserve AnyRule) → Type 0 = λ r. Walked (judged r) s.walk in
    let walked : Walks s.rule = subst Walks (sym c.advanced-search.ensures.held) c.advanced-search.ensures.walked in
    let told : x ≡ plan_reply (judged c.args.rule) (standing s.walk) (length c.args.plan.now) =
    c.write_plan.ensures.reply walked ∙ ap (λ (r : Precedence (Reserve AnyRule)). plan_reply (judged r) (standing s.walk) (length c.args.plan.now)) c.advanced-search.ensures.held
    in
    let parts : c.match-write_plan.refusal ≡ (fault_of x, length_of x) =
    elim c.match-write_plan.branch [
      | in-Ok w ↦ search rules
      | in-Err w ↦ search rules
    ]
    in
    rw (parts, c.outcome_number.ensures, c.outcome.ensures, c.count.ensures, told, c.advanced-search.ensures.stands) refl

pub returns-clause-buffer : goal.returns-clause-buffer
returns-clause-buffer c =
    let s = c.advanced-search.result in
    let Walks : Precedence (Reserve AnyRule) → Type 0 = λ r. Walked (judged r) s.walk in
    let walked : Walks s.rule = subst Walks (sym c.advanced-search.ensures.held) c.advanced-search.ensures.walked in
    c.write_plan.ensures.after walked
    ∙ ap (λ (r : Precedence (Reserve AnyRule)). plan_after (judged r) (standing s.walk) c.args.plan.now) c.advanced-search.ensures.held
    ∙ ap (λ (k : State). plan_after (judged c.args.rule) k c.args.plan.now) c.advanced-search.ensures.stands
