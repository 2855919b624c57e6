-- Why `settled` meets its contract. Assumes nothing.
use Rattle.std.proofs.Common.{rules, Bool, Some, None, cond, sym, ap, ◌∙◌}
use Rattle.rule.specs.FlowSets.{marks_of}
use Rattle.rule.specs.Questions.{asked_ceiling}
use Rattle.rule.proofs.FlowSets.{marks_of_length}
use Rattle.walk.specs.Walk.{by_ceiling, settled_by_ceiling}
use Rattle.search.proofs.Heard.{settled_told}
use Rattle.search.proofs.levels.settled.Goals as goal

pub returns : goal.returns
returns g c =
    λ only.
    let m = g.R.Rule.meaning c.args.rule.now in
    let free = marks_of c.args.free in
    c.chosen.ensures
    ∙ settled_told m (g.met.R.Rule.lawful c.args.rule.now) free (marks_of_length c.args.free) only c.gathered.result (c.gathered.ensures (asked_ceiling m) (λ f small others reply p. search rules))
    ∙ ap (λ (s : Bool). cond (settled_by_ceiling m s free) (Some (by_ceiling m free)) None) (sym c.if-not-sure.false)
