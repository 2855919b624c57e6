-- What writing a job leaves in the buffer. Assumes nothing.
use Rattle.std.specs.Prelude.{◌≡◌, ℕ, cond, List, ◌++◌, length, drop, nat_le}
use Rattle.job.specs.Jobs.{Contents}
use Rattle.layout.specs.Layout.{layout}
use Rattle.layout.specs.Reading.{Answer, accepted, ReadExactly}

-- a buffer shorter than the output is refused
abbrev pub write_fault : List ℕ → List ℕ → ℕ
write_fault output buffer = cond (nat_le (length output) (length buffer)) 0 14

-- the buffer afterwards: the output and then what stood behind it, or all as it was where the output did not fit
abbrev pub written_over : List ℕ → List ℕ → List ℕ
written_over output buffer = cond (nat_le (length output) (length buffer)) (output ++ drop (length output) buffer) buffer

-- whoever reads the layout of these contents by the promise of reading gets these contents
abbrev pub ReadsBack : Contents → Type 0
ReadsBack c = (answer : Answer) → ReadExactly (layout c) answer → answer ≡ accepted c
