-- What the loop of `gathered` keeps. Assumes nothing.
use Rattle.std.proofs.Common.{◌≡◌, ℕ, Bool, List, ◌++◌, Option, Result}
use Rattle.chip.specs.declared.refusal.Refusal.{Refusal}
use Rattle.rule.specs.FlowSets.{marks_of, members, flows_left}
use Rattle.search.specs.Candidates.{time_told, Answers}
use Rattle.search.proofs.Gathering.{Gathering}
use Rattle.search.proofs.candidates.gathered.Given as goal

abbrev pub invariant-loop-f : goal.invariant-loop-f
invariant-loop-f g l =
    ((asked : ℕ → List Bool → Result (Option ℕ) Refusal) → Answers (goal.F-post g l.answer) asked → Gathering (time_told (g.R.Rule.meaning l.rule) asked (marks_of l.free)) l.yielded (marks_of l.set) l.slack)
    × (l.yielded ++ flows_left l.f-iterator ≡ members (marks_of l.free))
