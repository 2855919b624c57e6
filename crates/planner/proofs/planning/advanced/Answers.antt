-- Why `advanced` meets its contract. Assumes nothing.
use Rattle.std.proofs.Common.{◌≡◌, ℕ, refl, ap, sym, ◌∙◌, subst}
use Rattle.rule.specs.Meaning.{Meaning}
use Rattle.precedence.specs.declared.precedence.Precedence.{Precedence}
use Rattle.reserve.specs.declared.reserve.Reserve.{Reserve}
use Rattle.any_rule.specs.declared.any_rule.AnyRule.{AnyRule}
use Rattle.walk.specs.Walk.{after, steps}
use Rattle.search.specs.Searches.{Walked}
use Rattle.search.specs.Tables.{standing}
use Rattle.planner.specs.JobRules.{judged}
use Rattle.planner.proofs.planning.advanced.Goals as goal

-- placings from the walk's start on
from_start : (m : Meaning) (p : ℕ) → steps m p (after m 0) ≡ after m p
unfolding after
from_start m p = refl

pub returns : goal.returns
returns c =
    let p = c.args.placings in
    let first = c.open-search.result in
    let Walks : Precedence (Reserve AnyRule) → Type 0 = λ r. Walked (judged r) first.walk in
    let opened : Walks first.rule = subst Walks (sym c.open-search.ensures.held) c.open-search.ensures.walked in
    let Moved : Precedence (Reserve AnyRule) → Type 0 = λ r. Walked (judged r) c.advance.new.self.walk in
    record {
      held = c.advance.ensures.held ∙ c.open-search.ensures.held;
      walked = subst Moved c.open-search.ensures.held (c.advance.ensures.walked opened);
      stands =
          c.advance.ensures.stands opened
          ∙ ap (λ (r : Precedence (Reserve AnyRule)). steps (judged r) p (standing first.walk)) c.open-search.ensures.held
          ∙ ap (steps (judged c.args.rule) p) c.open-search.ensures.stands
          ∙ from_start (judged c.args.rule) p;
    }
