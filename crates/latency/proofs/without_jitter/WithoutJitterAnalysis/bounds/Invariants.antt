-- What the loop of `bounds` of `WithoutJitter` keeps. Assumes nothing.
use Rattle.std.proofs.Common.{◌≡◌, take}
use Rattle.rule.specs.FlowSets.{marks_of}
use Rattle.rule.specs.Lists.{marks}
use Rattle.rule.proofs.Told.{Telling}
use Rattle.latency.specs.Analyses.{meaning_of, bound_by}
use Rattle.latency.specs.Chips.{chip}
use Rattle.latency.proofs.without_jitter.WithoutJitterAnalysis.bounds.Given as goal

abbrev pub invariant-loop-f : goal.invariant-loop-f
invariant-loop-f g l =
    Telling (meaning_of (bound_by g.I.Interferers.counts) (bound_by g.I.Interferers.counts) (bound_by g.I.Interferers.counts) (chip l.traffic)) l.list l.f-index l.told
    × (marks_of l.above ≡ marks (take l.f-index l.list))
