-- Bytes taken or put one after another. Assumes nothing.
use Rattle.std.proofs.Common.{◌≡◌, ℕ, List, ◌++◌, sym, ap, ◌∙◌, arith}
use Rattle.std.proofs.lemmas.List.{append_assoc, length-append}
use Rattle.layout.specs.Cursor.{Cursor, Took, Put}

-- some bytes and then some more
pub took_both : {before mid after : Cursor} (xs ys : List ℕ) → Took before mid xs → Took mid after ys → Took before after (xs ++ ys)
took_both {before} {mid} {after} xs ys first second = record {
  next = first.next ∙ ap (λ (zs : List ℕ). xs ++ zs) second.next ∙ sym (append_assoc xs ys after.left);
  moved = omega (arith, first.moved, second.moved, length-append xs ys);
  field = second.field ∙ first.field;
}

-- some bytes put last and then some more
pub laid_both : {b c : List ℕ} (a xs ys : List ℕ) → b ≡ a ++ xs → c ≡ b ++ ys → c ≡ a ++ (xs ++ ys)
laid_both a xs ys first second = second ∙ ap (λ (zs : List ℕ). zs ++ ys) first ∙ append_assoc a xs ys

-- and how many there are
pub put_both : {a b c : List ℕ} {n m k : ℕ} (xs ys : List ℕ) → Put a n b m xs → Put b m c k ys → Put a n c k (xs ++ ys)
put_both {a} xs ys first second = record {
  laid = laid_both a xs ys first.laid second.laid;
  count = omega (arith, first.count, second.count, length-append xs ys);
}
