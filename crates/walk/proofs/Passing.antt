-- Lists in which each flow has a bound under those above it: their parts, a flow struck out, and the test. Assumes nothing.
--   passes_parts, -join   a list in two parts
--   passes_struck         a flow struck out above leaves the others their bounds
--   passes_test           the leading bounds of a list are all if, and only if, it passes
--   passes_timely         each bound is then no later than its deadline
use Rattle.std.proofs.Common.{◌≡◌, ℕ, suc, ◌<◌, true, false, List, [], ◌∷◌, ◌++◌, length, get_or, take, is_some, Some, None, Option, sym, refl, ap, ◌∙◌, subst, arith}
use Rattle.std.proofs.lemmas.Bool.{both_ways, eqb-true, eq-eqb}
use Rattle.std.proofs.lemmas.List.{append_assoc, append-nil}
use Rattle.rule.specs.Lists.{distinct, proper, Struck, none, kept, out}
use Rattle.rule.specs.Laws.{Lawful}
use Rattle.rule.specs.Meaning.{Meaning, Passes, PassesUnder, InTime, NoLater, told, leading}
use Rattle.rule.proofs.Members.{times_append}
use Rattle.rule.proofs.Distinct.{proper_taken}
use Rattle.rule.proofs.Told.{leading_at}
use Rattle.walk.specs.Walk.{passes}
use Rattle.walk.proofs.Orders.{distinct_fewer}

-- an answer that is there is a number
pub some : (o : Option ℕ) → is_some o ≡ true → (r : ℕ) × (o ≡ Some r)
some None e = absurd (both_ways false refl e)
some (Some r) e = (r, refl)

-- an answer no later than another is there
pub later_some : (o : Option ℕ) (r : ℕ) → NoLater o r → is_some o ≡ true
later_some None r l = absurd l
later_some (Some s) r l = refl

module _ (m : Meaning) where
  pub passes_parts : (above xs ys : List ℕ) → PassesUnder m above (xs ++ ys) → PassesUnder m above xs × PassesUnder m (above ++ xs) ys
  passes_parts above [] ys p = (tt, subst (λ (zs : List ℕ). PassesUnder m zs ys) (sym (append-nil above)) p)
  passes_parts above (x ∷ xs) ys p =
      let r = passes_parts (above ++ x ∷ []) xs ys p.1 in
      ((p.0, r.0), subst (λ (zs : List ℕ). PassesUnder m zs ys) (append_assoc above (x ∷ []) xs) r.1)

  pub passes_join : (above xs ys : List ℕ) → PassesUnder m above xs → PassesUnder m (above ++ xs) ys → PassesUnder m above (xs ++ ys)
  passes_join above [] ys p q = subst (λ (zs : List ℕ). PassesUnder m zs ys) (append-nil above) q
  passes_join above (x ∷ xs) ys p q =
      (p.0, passes_join (above ++ x ∷ []) xs ys p.1 (subst (λ (zs : List ℕ). PassesUnder m zs ys) (sym (append_assoc above (x ∷ []) xs)) q))

struck_same : (xs : List ℕ) → Struck xs xs
struck_same [] = none
struck_same (x ∷ xs) = kept (struck_same xs)

struck_one : (front : List ℕ) (g : ℕ) (back : List ℕ) → Struck (front ++ back) (front ++ g ∷ back)
struck_one [] g back = out (struck_same back)
struck_one (x ∷ front) g back = kept (struck_one front g back)

module _ (m : Meaning) (laws : Lawful m) (front : List ℕ) (g : ℕ) where
  -- a flow struck out above leaves the others their bounds
  pub passes_struck : (mid xs : List ℕ) → distinct m.flows (front ++ g ∷ (mid ++ xs)) ≡ true → PassesUnder m (front ++ g ∷ mid) xs → PassesUnder m (front ++ mid) xs
  passes_struck mid [] d p = tt
  passes_struck mid (x ∷ xs) d p =
      let b = some (m.bound x (front ++ g ∷ mid)) p.0 in (
        later_some (m.bound x (front ++ mid)) b.0 (laws.struck x (front ++ mid) (front ++ g ∷ mid) b.0 asked (struck_one front g mid) b.1),
        subst (λ (zs : List ℕ). PassesUnder m zs xs) (sym (append_assoc front mid (x ∷ [])))
            (passes_struck (mid ++ x ∷ []) xs (ap (λ (zs : List ℕ). distinct m.flows (front ++ g ∷ zs)) (append_assoc mid (x ∷ []) xs) ∙ d)
            (subst (λ (zs : List ℕ). PassesUnder m zs xs) (append_assoc front (g ∷ mid) (x ∷ [])) p.1)),
      )
    where
      asked : proper m.flows x (front ++ g ∷ mid) ≡ true
      asked =
          distinct_fewer m.flows (front ++ g ∷ (mid ++ x ∷ xs)) (x ∷ (front ++ g ∷ mid)) d
          (λ y. let s = times_append y front (g ∷ mid) in
          let t = times_append y front (g ∷ (mid ++ x ∷ xs)) in
          let u = times_append y mid (x ∷ xs) in
          omega arith)

-- the test of an order
module _ (m : Meaning) where
  told_all : (o : Option ℕ) (rest : List ℕ) (k : ℕ) → length (told o rest) ≡ suc k → (is_some o ≡ true) × (length rest ≡ k)
  told_all None rest k e = absurd (omega arith)
  told_all (Some r) rest k e = (refl, omega arith)

  all_passes : (above xs : List ℕ) → length (leading m above xs) ≡ length xs → PassesUnder m above xs
  all_passes above [] e = tt
  all_passes above (x ∷ xs) e =
      let t = told_all (m.bound x above) (leading m (above ++ x ∷ []) xs) (length xs) e in
      (t.0, all_passes (above ++ x ∷ []) xs t.1)

  told_some : (o : Option ℕ) (rest : List ℕ) → is_some o ≡ true → length (told o rest) ≡ suc (length rest)
  told_some None rest e = absurd (both_ways false refl e)
  told_some (Some r) rest e = refl

  pub passes_all : (above xs : List ℕ) → PassesUnder m above xs → length (leading m above xs) ≡ length xs
  passes_all above [] p = refl
  passes_all above (x ∷ xs) p = told_some (m.bound x above) (leading m (above ++ x ∷ []) xs) p.0 ∙ ap suc (passes_all (above ++ x ∷ []) xs p.1)

  -- the test tells whether an order passes
  pub passes_true : (xs : List ℕ) → passes m xs ≡ true → Passes m xs
  unfolding passes
  passes_true xs e = all_passes [] xs (eqb-true (length (leading m [] xs)) (length xs) e)

  pub passes_test : (xs : List ℕ) → Passes m xs → passes m xs ≡ true
  unfolding passes
  passes_test xs p = eq-eqb (length (leading m [] xs)) (length xs) (passes_all [] xs p)

-- each bound of a list that passes is no later than its deadline
pub passes_timely : (m : Meaning) → Lawful m → (xs : List ℕ) → distinct m.flows xs ≡ true → Passes m xs → (i : ℕ) → i < length xs → NoLater (m.bound (get_or xs i 0) (take i xs)) (m.deadline (get_or xs i 0))
passes_timely m laws xs d p i h =
    let e = leading_at m xs i (omega (arith, passes_all m [] xs p)) in
    let t = laws.bound_timely (get_or xs i 0) (take i xs) (proper_taken m.flows xs i h d) in
    subst (λ (o : Option ℕ). NoLater o (m.deadline (get_or xs i 0))) (sym e)
    (subst (λ (o : Option ℕ). InTime o (m.deadline (get_or xs i 0))) e t)
