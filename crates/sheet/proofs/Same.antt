-- What `!=` tells of two values, where `==` decides a fact on them. Assumes nothing.
use Rattle.std.proofs.Common.{◌≡◌, Bool, true, false, not, Decides, sym, ap, ◌∙◌}
use Rattle.std.proofs.lemmas.Bool.{both_ways, not-false}

-- what `!=` tells, which denies a test k that decides P
pub unequal : {P : Type 0} (r k : Bool) → Decides k P → r ≡ not k → r ≡ true → P → ⊥
unequal r k decides denies e p = both_ways r (denies ∙ ap not (decides.1 p)) e

pub equal : {P : Type 0} (r k : Bool) → Decides k P → r ≡ not k → r ≡ false → P
equal r k decides denies e = decides.0 (not-false k (sym denies ∙ e))
