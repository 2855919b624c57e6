use Rattle.std.proofs.Common.{sym, refl, subst}
use Rattle.std.proofs.lemmas.Result.{MatchResult-weaker}
use Rattle.job.specs.Jobs.{Contents, contents}
use Rattle.layout.specs.declared.entry.Entry.{Entry}
use Rattle.layout.specs.declared.entry.Entry.TheVariants as entry
use Rattle.layout.specs.declared.entry.Stage.TheVariants.{Pairs}
use Rattle.layout.specs.Progress.{standing, part_of, with_last, Underway}
use Rattle.layout.specs.Reading.{State, Reads}
use Rattle.layout.proofs.Phases.{entry_read, entry_refused, head_refused, head_passed, end_read, ended, trailing, handed_on}
use Rattle.layout.proofs.Steps.{peeked_tag}
use Rattle.layout.proofs.reading.pairs.Goals as goal
use Rattle.layout.proofs.reading.pairs.Goals.{In_ok-add_pair, In-Pair}

-- the pair stands next
this_pair : (c : In-Pair) (from : State) → Underway from c.args.reader.now (contents c.args.job.now) c.args.next → Underway from c.loop-next.reader (contents c.loop-next.job) (entry.Pair c.in-Pair.pair)
this_pair c from u = subst (λ (e : Entry). Underway from c.loop-next.reader (contents c.loop-next.job) e) c.in-Pair.is (c.loop-next.invariant.1 from u)

pub returns-in_err-add_pair : goal.returns-in_err-add_pair
returns-in_err-add_pair c from u w =
    let told = c.in_err-add_pair.ensures in
    handed_on _ _ c.from_residual.result _ c.from_residual.ensures.1 (entry_refused from c.loop-next.reader (contents c.loop-next.job) (entry.Pair c.in-Pair.pair) (this_pair (goal.at.returns-in_err-add_pair c).In-Pair from u) _ (λ s. told.0) told.1)

-- once the pair is added, it is read
read_pair : (c : In_ok-add_pair) (from : State) → Underway from c.loop-next.reader (contents c.loop-next.job) (entry.Pair c.in-Pair.pair) → Reads from (standing (part_of Pairs (contents c.add_pair.new.job)) c.loop-next.reader)
read_pair c from u =
    let told = c.in_ok-add_pair.ensures in
    subst (λ (d : Contents). Reads from (standing (part_of Pairs d) c.loop-next.reader)) (sym told.1)
    (entry_read from c.loop-next.reader (contents c.loop-next.job) (entry.Pair c.in-Pair.pair) u Pairs (with_last c.in-Pair.pair (contents c.loop-next.job)) (λ s. told.0) (λ s. refl))

pub returns-in_err-next : goal.returns-in_err-next
returns-in_err-next c from u w =
    let on = goal.at.returns-in_err-next c in
    handed_on _ _ c.from_residual-in_err-next.result _ c.from_residual-in_err-next.ensures.1 (head_refused from c.loop-next.reader Pairs (contents c.add_pair.new.job) (read_pair on.In_ok-add_pair from (this_pair on.In-Pair from u)) _ refl c.in_err-next.ensures)

pub loop-next-preserved : goal.loop-next-preserved
loop-next-preserved c =
    let told = c.in_ok-next.ensures in
    let on = goal.at.loop-next-preserved c in (
      (λ _. peeked_tag told),
      λ from u.
          head_passed from c.loop-next.reader Pairs (contents c.add_pair.new.job) (read_pair on.In_ok-add_pair from (this_pair on.In-Pair from u)) c.entry.new.self c.in_ok-next.next told,
    )

pub returns : goal.returns
returns c from u w =
    let done = end_read from c.loop-next.reader (contents c.loop-next.job) c.loop-next.next (c.loop-next.invariant.1 from u) (c.loop-next.invariant.0 w) c.in_default.not-Pair in
    MatchResult-weaker c.finish.result c.finish.ensures
    (λ _ e. ended from c.loop-next.reader (contents c.loop-next.job) done e)
    (λ f e. trailing from c.loop-next.reader (contents c.loop-next.job) f done e.0 e.1)
