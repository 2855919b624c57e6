-- Why the work is done on the job of the bytes that were read. Assumes nothing.
use Rattle.std.proofs.Common.{◌≡◌, ℕ, List, length, take, Ok, sym, subst, arith}
use Rattle.std.proofs.lemmas.List.{length-take-le}
use Rattle.layout.specs.Reading.{ReadExactly, answer_of}
use Rattle.input.proofs.with_job.Goals as goal

pub returns-in_ok-work-in-Ok : goal.returns-in_ok-work-in-Ok
returns-in_ok-work-in-Ok g c = λ _.
    let len : ℕ = c.in_ok-len.len in
    let bytes : List ℕ = take len c.read_input.new.buf in
    let long : length bytes ≡ len = length-take-le len c.read_input.new.buf (omega (arith, c.read_input.array_long, c.in_ok-len.ensures)) in
    (bytes, c.in-Ok.job, subst (λ r. ReadExactly bytes (answer_of r)) c.in-Ok.is c.read.ensures, subst (λ (n : ℕ). g.F.FnOnce.post c.args.work (c.in-Ok.job, (n, tt {0})) (Ok (tt {0}))) (sym long) c.in_ok-work-in-Ok.ensures)
