-- Why `numbered_pairs` meets its contract. Assumes nothing.
use Rattle.std.proofs.Common.{◌≡◌, ℕ, ◌<◌, ◌∙◌, None, get_or, ap, rules}
use Rattle.std.specs.List.{slice_get}
use Rattle.std.specs.Option.{option_map}
use Rattle.std.proofs.lemmas.List.FromFn.{fill_by_all}
use Rattle.job.specs.Jobs.{contents}
use Rattle.layout.proofs.Laying.{few_pairs}
use Rattle.planner.specs.JobRules.{numbered, offers}
use Rattle.planner.proofs.Offered.{offers_all}
use Rattle.planner.proofs.job_rule.numbered_pairs.Goals as goal

pub returns : goal.returns
returns c =
    let job = contents c.args.job.now in
    let items = c.from_fn.ensures.items in
    let each : (k : ℕ) → k < 16 → get_or c.from_fn.result k None ≡ option_map (numbered job.flows) (slice_get job.pairs k) =
    λ k lt. let call = items.at k None lt in search rules
    in
    ap offers (fill_by_all (λ k. option_map (numbered job.flows) (slice_get job.pairs k)) c.from_fn.result 16 None items.long each)
    ∙ offers_all (numbered job.flows) job.pairs (few_pairs c.args.job.now)
