-- Why `numbered_at` meets its contract. Assumes nothing.
use Rattle.std.proofs.Common.{◌≡◌, ◌∙◌, Some, List, ap, sym, rules}
use Rattle.std.specs.List.{slice_get}
use Rattle.std.specs.Option.{option_map}
use Rattle.chip.specs.declared.parameters.FlowParameters.{FlowParameters}
use Rattle.job.specs.Jobs.{contents}
use Rattle.sheet.specs.Pairs.{pair_holds}
use Rattle.planner.specs.JobRules.{numbered}
use Rattle.planner.proofs.Offered.{holds_at}
use Rattle.planner.proofs.job_rule.numbered_at.Goals as goal

pub returns : goal.returns
returns c =
    let job = contents c.args.job.now in
    let pair = c.in_ok-pair.field-0 in
    let at : slice_get job.pairs c.args.place ≡ Some pair = search rules in
    let holds = ap (λ (fs : List FlowParameters). pair_holds fs pair) c.sheet.ensures ∙ holds_at job.flows job.pairs c.args.place pair c.args.job.now.known at in
    c.numbered.ensures holds
    ∙ ap (λ (fs : List FlowParameters). Some (numbered fs pair)) c.sheet.ensures
    ∙ ap (option_map (numbered job.flows)) (sym at)
