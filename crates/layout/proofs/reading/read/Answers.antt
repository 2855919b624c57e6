use Rattle.std.proofs.Common.{subst}
use Rattle.std.proofs.lemmas.Result.{MatchResult-weaker}
use Rattle.layout.specs.Faults.{blank}
use Rattle.layout.specs.Progress.{standing, ruled, Refuses}
use Rattle.layout.specs.Reading.{Reads, start}
use Rattle.layout.specs.Cursor.{Cursor}
use Rattle.layout.proofs.Exact.{exact}
use Rattle.layout.proofs.Steps.{then_reads, then_refuses}
use Rattle.layout.proofs.Phases.{handed_on}
use Rattle.layout.proofs.reading.read.Goals as goal
use Rattle.layout.proofs.reading.read.Goals.{In_ok-letter}

pub returns-in_err-letter : goal.returns-in_err-letter
returns-in_err-letter c =
    exact c.args.bytes.now c.from_residual.result
    (handed_on _ _ c.from_residual.result _ c.from_residual.ensures.1 (subst (λ (here : Cursor). Refuses (standing blank here) c.in_err-letter.field-0.0) c.new-reader.ensures c.in_err-letter.ensures))

-- the rule field is read
ruled_so_far : (c : In_ok-letter) → Reads (start c.args.bytes.now) (standing (ruled c.in_ok-letter.letter) c.letter.new.reader)
ruled_so_far c = subst (λ (here : Cursor). Reads (standing blank here) (standing (ruled c.in_ok-letter.letter) c.letter.new.reader)) c.new-reader.ensures c.in_ok-letter.ensures

pub returns-in_err-first : goal.returns-in_err-first
returns-in_err-first c =
    exact c.args.bytes.now c.from_residual-in_err-first.result
    (handed_on _ _ c.from_residual-in_err-first.result _ c.from_residual-in_err-first.ensures.1 (then_refuses (ruled_so_far (goal.at.returns-in_err-first c).In_ok-letter) (c.in_err-first.ensures c.in_ok-letter.letter)))

pub returns : goal.returns
returns c =
    let so_far = then_reads (ruled_so_far (goal.at.returns c).In_ok-letter) (c.in_ok-first.ensures c.in_ok-letter.letter) in
    exact c.args.bytes.now c.rest.result
    (MatchResult-weaker c.rest.result c.rest.ensures (λ j e. (e.0, then_reads so_far e.1)) (λ f e. then_refuses so_far e))
