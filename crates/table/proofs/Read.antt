-- A read of a slice at a place. Assumes nothing.
use Rattle.std.proofs.Common.{◌≡◌, ℕ, ltb, Option, Some, None, List, length, get_or, sym, refl}
use Rattle.std.specs.Borrow.{Bor}
use Rattle.std.specs.Option.{is_some, IfSome, option_copied}
use Rattle.std.specs.List.{slice_get}
use Rattle.std.proofs.lemmas.Bool.{ltb-true, ltb-false}
use Rattle.std.proofs.lemmas.Option.{slice_get_past, slice_get_read}

pub read_at : {X : Type 0} (xs : List X) (i : ℕ) (o : Option (Bor X)) → is_some o ≡ ltb i (length xs) → IfSome o (λ x. x.now ≡ get_or xs i x.now) → option_copied o ≡ slice_get xs i
read_at xs i None there e = sym (slice_get_past xs i (ltb-false i (length xs) (sym there)))
read_at xs i (Some x) there e = sym (slice_get_read xs (length xs) i x.now refl (ltb-true i (length xs) (sym there)) e)
