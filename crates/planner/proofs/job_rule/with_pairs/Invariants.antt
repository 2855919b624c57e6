-- What the loop of `with_pairs` keeps: the pairs that are left lead to the same pairs held. Assumes nothing.
use Rattle.std.proofs.Common.{◌≡◌, drop}
use Rattle.precedence.specs.Held.{pairs_of}
use Rattle.any_rule.specs.AnyRules.{meaning_any}
use Rattle.planner.specs.JobRules.{offers, taken}
use Rattle.planner.proofs.job_rule.with_pairs.Given as goal

abbrev pub invariant-loop-place : goal.invariant-loop-place
invariant-loop-place l =
    (taken (meaning_any l.initial.rule.rule.rule).flows (pairs_of l.rule.pairs) (offers (drop l.place-index l.pairs)) ≡ taken (meaning_any l.initial.rule.rule.rule).flows (pairs_of l.initial.rule.pairs) (offers l.pairs))
    × (l.rule.rule ≡ l.initial.rule.rule)
