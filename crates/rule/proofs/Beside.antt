-- A loop over a list and the bounds below side by side. Assumes nothing.
--   beside, -end     each turn of such a loop, and its end
use Rattle.std.proofs.Common.{◌≡◌, ℕ, List, length, Some, None, Option, Bor, Iter, arith}
use Rattle.std.specs.declared.iter.Zip.{Zip}
use Rattle.std.specs.Iterator.{Yields}
use Rattle.std.specs.Iterator.Adapters.{zip_first, zip_second}
use Rattle.std.specs.Slice.Iter.{iter_rest}
use Rattle.std.proofs.iter.Yields.{fronts}
use Rattle.std.proofs.lemmas.Iterator.{zips}
use Rattle.std.proofs.lemmas.Slice.Zip.{zip_turn, zip_end}
use Rattle.rule.specs.Meaning.{Meaning}
use Rattle.rule.proofs.Below.{BoundsBelow, Beside, bounds_most}

module _ (list bounds : List ℕ) (xs : List (Bor ℕ × Bor ℕ)) (start now next : Zip (Iter ℕ) (Iter ℕ)) (r : Option (Bor ℕ × Bor ℕ)) (flows : iter_rest (zip_first start) ≡ list) (told : iter_rest (zip_second start) ≡ bounds) (y : Yields (zips fronts fronts) start xs now) (step : zips fronts fronts now r next) where
  pub beside : (p : Bor ℕ × Bor ℕ) → r ≡ Some p → Beside list bounds (length xs) p.0.now p.1.now
  beside p e =
      let t = zip_turn list bounds xs start now next r flows told y p e step in
      record { more = t.1; flow = t.2 0; bound = t.3 0 }

  pub beside_end : (m : Meaning) → BoundsBelow m list bounds → r ≡ None → length xs ≡ length bounds
  beside_end m s e =
      let t = zip_end list bounds xs start now next r flows told y e step in
      let l = bounds_most m list bounds s in
      omega arith
