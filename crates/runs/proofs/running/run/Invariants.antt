-- What the loop of `run` keeps. Assumes nothing.
use Rattle.std.proofs.Common.{◌≡◌}
use Rattle.std.specs.Option.{option_map}
use Rattle.runs.specs.Runs.{rival_of}
use Rattle.runs.proofs.Kept.{Running}
use Rattle.runs.proofs.running.run.Given as goal

abbrev pub invariant-loop-i : goal.invariant-loop-i
invariant-loop-i g l =
    (l.search.rule ≡ l.initial.search.rule)
    × Running (g.R.Rule.meaning l.initial.search.rule) (rival_of g.Q.Rule.meaning (option_map (λ x. x.now) l.other)) l.calls l.initial.replies l.initial.plan l.replies l.plan l.search.walk l.i
