-- Why `FlowSet::of` meets its contract. Assumes nothing.
use Rattle.std.proofs.Common.{◌≡◌, ℕ, List, subst, rules}
use Rattle.std.proofs.lemmas.Fn.{fold_over, slice_gives, fronts}
use Rattle.rule.specs.Lists.{marks}
use Rattle.rule.specs.FlowSets.{marks_of}
use Rattle.rule.proofs.Members.{marks_push}
use Rattle.rule.proofs.flow_set.FlowSet.of.Goals as goal

pub returns : goal.returns
returns c =
    subst (λ (l : List ℕ). marks_of c.fold.result ≡ marks l) c.iter.ensures.rest
    (fold_over fronts (λ y. y.now) _ (λ ys set. marks_of set ≡ marks ys) _ (λ ys a x b f' j k. let m = marks_push x.now ys in search rules)
    _ _ _ _ (slice_gives c.iter.result) c.none.ensures c.fold.ensures.ran)
