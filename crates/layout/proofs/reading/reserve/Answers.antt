use Rattle.std.proofs.Common.{Some, sym, refl, subst}
use Rattle.std.proofs.lemmas.Result.{MatchResult-weaker}
use Rattle.job.specs.Jobs.{Contents, contents, with_reserve}
use Rattle.layout.specs.declared.entry.Entry.{Entry}
use Rattle.layout.specs.declared.entry.Entry.TheVariants as entry
use Rattle.layout.specs.declared.entry.Stage.TheVariants.{Pairs}
use Rattle.layout.specs.Progress.{standing, part_of, Underway}
use Rattle.layout.specs.Reading.{State, Reads}
use Rattle.layout.proofs.Phases.{entry_read, entry_refused, head_refused, head_passed, handed_on}
use Rattle.layout.proofs.reading.reserve.Goals as goal
use Rattle.layout.proofs.reading.reserve.Goals.{In-Reserve, In_ok-set_reserve-in-Reserve}

-- the reserve stands next
this_reserve : (c : In-Reserve) (from : State) → Underway from c.args.reader.now (contents c.args.job.now) c.args.next → Underway from c.args.reader.now (contents c.args.job.now) (entry.Reserve c.in-Reserve.ticks)
this_reserve c from u = subst (λ (e : Entry). Underway from c.args.reader.now (contents c.args.job.now) e) c.in-Reserve.is u

pub returns-in_err-set_reserve-in-Reserve-clause-cases : goal.returns-in_err-set_reserve-in-Reserve-clause-cases
returns-in_err-set_reserve-in-Reserve-clause-cases c from u =
    let told = c.in_err-set_reserve-in-Reserve.ensures in
    handed_on _ _ c.from_residual.result _ c.from_residual.ensures.1 (entry_refused from c.args.reader.now (contents c.args.job.now) (entry.Reserve c.in-Reserve.ticks) (this_reserve (goal.at.returns-in_err-set_reserve-in-Reserve-clause-cases c).In-Reserve from u) _ (λ s. told.0) told.1)

-- once the reserve is set, it is read
read_reserve : (c : In_ok-set_reserve-in-Reserve) (from : State) → Underway from c.args.reader.now (contents c.args.job.now) (entry.Reserve c.in-Reserve.ticks) → Reads from (standing (part_of Pairs (contents c.set_reserve.new.job)) c.args.reader.now)
read_reserve c from u =
    let told = c.in_ok-set_reserve-in-Reserve.ensures in
    subst (λ (d : Contents). Reads from (standing (part_of Pairs d) c.args.reader.now)) (sym told.1)
    (entry_read from c.args.reader.now (contents c.args.job.now) (entry.Reserve c.in-Reserve.ticks) u Pairs (with_reserve (Some c.in-Reserve.ticks) (contents c.args.job.now)) (λ s. told.0) (λ s. refl))

pub returns-in_ok-set_reserve-in-Reserve-clause-cases : goal.returns-in_ok-set_reserve-in-Reserve-clause-cases
returns-in_ok-set_reserve-in-Reserve-clause-cases c from u =
    let r = c.args.reader.now in
    let d = contents c.set_reserve.new.job in
    let on = goal.at.returns-in_ok-set_reserve-in-Reserve-clause-cases c in
    let done = read_reserve on.In_ok-set_reserve-in-Reserve from (this_reserve on.In-Reserve from u) in
    MatchResult-weaker c.entry.result c.entry.ensures
    (λ e p. head_passed from r Pairs d done c.entry.new.self e p)
    (λ f m. head_refused from r Pairs d done f refl m)
