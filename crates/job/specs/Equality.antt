-- When two jobs are equal: they hold the same. Assumes nothing.
use Rattle.std.specs.Prelude.{Bool, nat_eq, ◌&&◌}
use Rattle.std.specs.Cmp.Lexicographic.{pointwise}
use Rattle.std.specs.Option.{option_eq}
use Rattle.std.specs.Ordering.{on}
use Rattle.chip.specs.Equality.{flow_eq}
use Rattle.sheet.specs.Letters.{letter_code}
use Rattle.sheet.specs.PairEquality.{pair_eq}
use Rattle.job.specs.declared.job.Job.{Job}
use Rattle.job.specs.Jobs.{Contents, contents}

-- contents with the same letter and reserve, and the same flows and pairs in the same order
abbrev pub contents_eq : Contents → Contents → Bool
contents_eq a b =
    nat_eq (letter_code a.letter) (letter_code b.letter) && option_eq nat_eq a.reserve b.reserve
    && pointwise flow_eq a.flows b.flows && pointwise pair_eq a.pairs b.pairs

-- jobs that hold the same
abbrev pub job_eq : Job → Job → Bool
job_eq = on contents contents_eq
