-- No two fields have the same bytes: what a field says can be read off them. Assumes nothing.
use Rattle.std.proofs.Common.{◌≡◌, ℕ, ◌+◌, ◌*◌, ◌/◌, ◌%◌, cond, eqb, List, ◌++◌, get_or, sym, refl, ap, ◌∙◌, subst, arith}
use Rattle.std.proofs.lemmas.List.{append_cancel_left}
use Rattle.layout.specs.declared.entry.Entry.{Entry}
use Rattle.layout.specs.declared.entry.Entry.TheVariants as entry
use Rattle.layout.specs.Layout.{entry_bytes}

-- the numbers in two and in four bytes
two : List ℕ → ℕ → ℕ
two bs i = get_or bs i 0 * 256 + get_or bs (i + 1) 0

four : List ℕ → ℕ → ℕ
four bs i = get_or bs i 0 * 16777216 + get_or bs (i + 1) 0 * 65536 + get_or bs (i + 2) 0 * 256 + get_or bs (i + 3) 0

-- what the bytes of a field say
decode : List ℕ → Entry
decode bs =
    cond (eqb (get_or bs 0 0) 1) (entry.Rule (get_or bs 3 0))
    (cond (eqb (get_or bs 0 0) 2)
    (entry.Flow (record {
      label = two bs 3;
      period = four bs 5;
      deadline = four bs 9;
      jitter = four bs 13;
      latency = four bs 17;
      source = record { column = get_or bs 21 0; row = get_or bs 22 0 };
      destination = record { column = get_or bs 23 0; row = get_or bs 24 0 };
    }))
    (cond (eqb (get_or bs 0 0) 3) (entry.Reserve (four bs 3))
    (cond (eqb (get_or bs 0 0) 4) (entry.Pair (record { first = two bs 3; later = two bs 5 })) entry.End)))

back_two : (n : ℕ) → n / 256 * 256 + n % 256 ≡ n
back_two n = omega arith

back_four : (n : ℕ) → n / 16777216 * 16777216 + n / 65536 % 256 * 65536 + n / 256 % 256 * 256 + n % 256 ≡ n
back_four n = omega arith

decode_bytes : (e : Entry) (rest : List ℕ) → decode (entry_bytes e ++ rest) ≡ e
unfolding decode two four
decode_bytes (entry.Rule letter) rest = refl
decode_bytes (entry.Flow p) rest = simp (back_two, back_four)
decode_bytes (entry.Reserve ticks) rest = simp back_four
decode_bytes (entry.Pair q) rest = simp back_two
decode_bytes entry.End rest = refl

-- bytes that begin with a field begin with no other
pub same_field : (e f : Entry) (r s : List ℕ) → entry_bytes e ++ r ≡ entry_bytes f ++ s → e ≡ f
same_field e f r s h = sym (decode_bytes e r) ∙ ap decode h ∙ decode_bytes f s

pub same_rest : (e f : Entry) (r s : List ℕ) → entry_bytes e ++ r ≡ entry_bytes f ++ s → r ≡ s
same_rest e f r s h = append_cancel_left (entry_bytes f) r s (subst (λ (x : Entry). entry_bytes x ++ r ≡ entry_bytes f ++ s) (same_field e f r s h) h)
