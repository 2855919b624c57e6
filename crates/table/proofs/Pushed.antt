-- One more item: pushed, or refused where there is no room. Assumes nothing.
use Rattle.std.proofs.Common.{◌≡◌, ℕ, ◌<◌, ◌↔◌, Ok, Err, Result, ◌⊎◌, [], ◌∷◌, ◌++◌, length, inl, inr, refl}
use Rattle.std.proofs.lemmas.Bool.{false≢true}
use Rattle.std.specs.Result.{IsOk, OnOk, OnErr}
use Rattle.table.specs.declared.Full.{Full}
use Rattle.table.specs.Listed.{Listed}

-- the two ways in which a push ends
pub pushed : {T : Type 0} (n : ℕ) (old new : Listed T) (x : T) (r : Result (Unit {0}) Full) → (IsOk r ↔ (length old.items < n)) → OnOk r (new.items ≡ old.items ++ x ∷ []) → OnErr r (new ≡ old) →
    ((length old.items < n) × (new.items ≡ old.items ++ x ∷ [])) ⊎ ((length old.items < n → ⊥) × (new ≡ old))
pushed n old new x (Ok _) told ok err = inl (told.0 refl, ok)
pushed n old new x (Err _) told ok err = inr (λ l. false≢true (told.1 l), err)
