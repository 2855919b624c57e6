-- What `==` computes of jobs decides whether they hold the same. Assumes nothing.
use Rattle.std.proofs.Common.{◌≡◌, Decides, Option, Some, None, ap, rules}
use Rattle.std.specs.Bool.{one_answer}
use Rattle.std.specs.Cmp.Lexicographic.{pointwise_decides}
use Rattle.std.specs.Option.{option_eq}
use Rattle.std.proofs.lemmas.Bool.Decides.{Decides-and}
use Rattle.chip.specs.declared.ticks.Ticks.{Ticks}
use Rattle.chip.specs.contracts.ticks.TicksPartialEq.TheImpl as ticks
use Rattle.sheet.proofs.Equal.{letter_decides, pair_decides, sheet_decides}
use Rattle.job.specs.declared.job.Job.{Job}
use Rattle.job.specs.contracts.job.JobPartialEq.TheImpl as job
use Rattle.job.specs.Equality.{job_eq}
use Rattle.job.specs.EqualityLemmas.{contents_decides}
use Rattle.job.specs.Jobs.{contents, ticks_of}

reserve_decides : (a b : Option Ticks) → Decides (option_eq (ticks.ghosts).eq a b) (ticks_of a ≡ ticks_of b)
reserve_decides None None = search rules
reserve_decides None (Some y) = search rules
reserve_decides (Some x) None = search rules
reserve_decides (Some x) (Some y) = search rules

pub job_decides : (a b : Job) → Decides ((job.ghosts).eq a b) (contents a ≡ contents b)
job_decides a b =
    let all =
    Decides-and _ _ (letter_decides a.letter b.letter)
    (Decides-and _ _ (sheet_decides a.sheet b.sheet)
    (Decides-and _ _ (reserve_decides a.reserve b.reserve) (pointwise_decides pair_decides a.pairs.items b.pairs.items))) in
    (λ e. search (rules, all), λ e. all.1 (ap (λ c. c.letter) e, (ap (λ c. c.flows) e, (ap (λ c. c.reserve) e, ap (λ c. c.pairs) e))))

-- it is the test of equal jobs that is written down
pub job_computes : (a b : Job) → (job.ghosts).eq a b ≡ job_eq a b
job_computes a b = one_answer _ _ (job_decides a b) (contents_decides (contents a) (contents b))
