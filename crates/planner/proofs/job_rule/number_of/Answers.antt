-- Why `number_of` meets its contract. Assumes nothing.
use Rattle.std.proofs.Common.{◌≡◌, ◌+◌, ◌∙◌, ap, rules, cond, Some, None}
use Rattle.std.specs.Option.{option_map}
use Rattle.sheet.specs.Flows.{labelled}
use Rattle.planner.specs.JobRules.{number}
use Rattle.planner.proofs.Places.{found}
use Rattle.planner.proofs.job_rule.number_of.Goals as goal

pub returns : goal.returns
returns c =
    let here : c.map.result ≡ option_map (λ n. n + 1) c.place_of.result = search rules in
    here
    ∙ ap (option_map (λ n. n + 1)) c.place_of.ensures
    ∙ found c.args.label c.flows.result.now
    ∙ ap (λ ps. cond (labelled c.args.label ps) (Some (number ps c.args.label)) None) c.flows.ensures
