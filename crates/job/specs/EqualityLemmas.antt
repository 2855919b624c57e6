-- The test of equal jobs decides whether they hold the same, and keeps the laws of `==`. Assumes nothing.
use Rattle.std.specs.Prelude.{◌≡◌, nat_eq, Some, None, Option, ℕ, Decides}
use Rattle.std.specs.Bool.{one_answer}
use Rattle.std.specs.Cmp.{IsPartialEquivalence}
use Rattle.std.specs.Cmp.Lexicographic.{pointwise_decides}
use Rattle.std.specs.Option.{option_eq}
use Rattle.std.proofs.Common.{sym, ap, ◌∙◌, rules}
use Rattle.std.proofs.lemmas.Bool.Decides.{Decides-and}
use Rattle.chip.proofs.Equal.{flow_eq_decides}
use Rattle.sheet.specs.declared.letter.Letter.{Letter}
use Rattle.sheet.specs.declared.letter.Letter.TheVariants.{D, J, L}
use Rattle.sheet.specs.Letters.{letter_code}
use Rattle.sheet.proofs.Equal.{pair_eq_decides}
use Rattle.job.specs.Equality.{contents_eq, job_eq}
use Rattle.job.specs.Jobs.{Contents, contents}

letters_decide : (a b : Letter) → Decides (nat_eq (letter_code a) (letter_code b)) (a ≡ b)
letters_decide D D = search rules
letters_decide D J = search rules
letters_decide D L = search rules
letters_decide J D = search rules
letters_decide J J = search rules
letters_decide J L = search rules
letters_decide L D = search rules
letters_decide L J = search rules
letters_decide L L = search rules

reserves_decide : (a b : Option ℕ) → Decides (option_eq nat_eq a b) (a ≡ b)
reserves_decide None None = search rules
reserves_decide None (Some y) = search rules
reserves_decide (Some x) None = search rules
reserves_decide (Some x) (Some y) = search rules

pub contents_decides : (a b : Contents) → Decides (contents_eq a b) (a ≡ b)
contents_decides a b =
    let all =
    Decides-and _ _ (Decides-and _ _ (Decides-and _ _ (letters_decide a.letter b.letter) (reserves_decide a.reserve b.reserve)) (pointwise_decides flow_eq_decides a.flows b.flows))
    (pointwise_decides pair_eq_decides a.pairs b.pairs) in
    (λ e. search (rules, all), λ e. all.1 (((ap (λ c. c.letter) e, ap (λ c. c.reserve) e), ap (λ c. c.flows) e), ap (λ c. c.pairs) e))

pub job_laws : IsPartialEquivalence job_eq
job_laws =
    record {
      symm = λ x y. one_answer (job_eq x y) (job_eq y x) (contents_decides (contents x) (contents y))
          ((λ e. sym ((contents_decides (contents y) (contents x)).0 e)), (λ e. (contents_decides (contents y) (contents x)).1 (sym e)));
      trans = λ x y z a b. (contents_decides (contents x) (contents z)).1 ((contents_decides (contents x) (contents y)).0 a ∙ (contents_decides (contents y) (contents z)).0 b);
    }
