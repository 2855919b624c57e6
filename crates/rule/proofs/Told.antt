-- Bounds told one after another: the table of a list's leading bounds as it grows. Assumes nothing.
use Rattle.std.proofs.Common.{◌≡◌, ℕ, zero, suc, ◌+◌, ◌-◌, ◌<◌, ◌≤◌, Bool, true, ltb, List, [], ◌∷◌, ◌++◌, length, get_or, take, drop, set, replicate, Some, None, Ok, Option, Result, sym, refl, ap, ◌∙◌, ap₂, arith}
use Rattle.chip.specs.declared.refusal.Refusal.{Refusal}
use Rattle.std.proofs.lemmas.Bool.{cond-true, lt-ltb}
use Rattle.std.proofs.lemmas.List.{drop_more, drop_all, at_drop_more, at_drop_all, take_more, append_assoc, append-nil, length_push, set_at}
use Rattle.rule.specs.declared.bounds.Bounds.{Bounds}
use Rattle.rule.specs.Meaning.{Meaning, answer, told, leading}
use Rattle.rule.specs.Questions.{table, one_more, asked_bound, asked_bounds}
use Rattle.rule.specs.Lists.{distinct, proper}
use Rattle.rule.specs.Laws.{Lawful}
use Rattle.rule.proofs.Distinct.{proper_taken, distinct_short}

padding : (k : ℕ) → k < 20 → replicate {A = ℕ} (20 - k) 0 ≡ 0 ∷ replicate (20 - (k + 1)) 0
padding k h = let e : 20 - k ≡ suc (20 - (k + 1)) = omega arith in ap (λ (x : ℕ). replicate {A = ℕ} x 0) e

-- one more bound after a table
pub table_more : (ts : List ℕ) (r : ℕ) → length ts < 20 → one_more (table ts) r ≡ table (ts ++ r ∷ [])
table_more ts r h =
    cond-true (ltb (length ts) 20) (record { count = length ts + 1; ticks = set (ts ++ replicate (20 - length ts) 0) (length ts) r }) (table ts) (lt-ltb (length ts) 20 h)
    ∙ ap₂ (λ (n : ℕ) (xs : List ℕ). record { count = n; ticks = xs }) (sym (length_push ts r)) ticks
  where
    ticks : set (ts ++ replicate (20 - length ts) 0) (length ts) r ≡ (ts ++ r ∷ []) ++ replicate (20 - length (ts ++ r ∷ [])) 0
    ticks =
        ap (λ (xs : List ℕ). set (ts ++ xs) (length ts) r) (padding (length ts) h)
        ∙ set_at ts 0 (replicate (20 - (length ts + 1)) 0) r (length ts) refl
        ∙ ap (λ (n : ℕ). ts ++ r ∷ replicate (20 - n) 0) (sym (length_push ts r))
        ∙ sym (append_assoc ts (r ∷ []) (replicate (20 - length (ts ++ r ∷ [])) 0))

-- so many bounds were told of the first i flows of a list, and the others are to come
pub record Telling (m : Meaning) (list : List ℕ) (i : ℕ) (so_far : Bounds) : Type 0 where
  pub ticks : List ℕ
  pub held : so_far ≡ table ticks
  pub each : length ticks ≡ i
  pub others : leading m [] list ≡ ticks ++ leading m (take i list) (drop i list)

module _ (m : Meaning) (list : List ℕ) where
  pub telling_none : Telling m list 0 (table [])
  telling_none = record { ticks = []; held = refl; each = refl; others = refl }

  module _ (i : ℕ) (so_far : Bounds) (t : Telling m list i so_far) where
    next : i < length list → leading m (take i list) (drop i list) ≡ told (m.bound (get_or list i 0) (take i list)) (leading m (take (i + 1) list) (drop (i + 1) list))
    next h = at_drop_more (leading m (take i list)) list i 0 h ∙ ap (λ (xs : List ℕ). told (m.bound (get_or list i 0) (take i list)) (leading m xs (drop (i + 1) list))) (sym (take_more list i 0 h))

    -- the next flow has a bound
    pub telling_more : (r : ℕ) → i < length list → i < 20 → m.bound (get_or list i 0) (take i list) ≡ Some r → Telling m list (i + 1) (one_more so_far r)
    telling_more r h l e =
        record {
          ticks = t.ticks ++ r ∷ [];
          held = ap (λ (x : Bounds). one_more x r) t.held ∙ table_more t.ticks r (omega (arith, t.each));
          each = length_push t.ticks r ∙ ap (λ (n : ℕ). n + 1) t.each;
          others =
              t.others
              ∙ ap (λ (xs : List ℕ). t.ticks ++ xs) (next h ∙ ap (λ (o : Option ℕ). told o (leading m (take (i + 1) list) (drop (i + 1) list))) e)
              ∙ sym (append_assoc t.ticks (r ∷ []) (leading m (take (i + 1) list) (drop (i + 1) list)));
        }

    over : leading m (take i list) (drop i list) ≡ [] → so_far ≡ table (leading m [] list)
    over e = t.held ∙ ap table (sym (t.others ∙ ap (λ (xs : List ℕ). t.ticks ++ xs) e ∙ append-nil t.ticks))

    -- the next flow has no bound
    pub telling_ends : i < length list → m.bound (get_or list i 0) (take i list) ≡ None → so_far ≡ table (leading m [] list)
    telling_ends h e = over (next h ∙ ap (λ (o : Option ℕ). told o (leading m (take (i + 1) list) (drop (i + 1) list))) e)

    -- there is no further flow
    pub telling_all : length list ≤ i → so_far ≡ table (leading m [] list)
    telling_all h = over (at_drop_all (leading m (take i list)) list i h)

-- the reply to a question that is proper
pub replied : {X : Type 0} (b : Bool) (x : X) → b ≡ true → answer b x ≡ Ok x
replied b x e = rw e refl

-- a list without repeats, asked of a lawful rule
pub record Sound (m : Meaning) (list : List ℕ) : Type 0 where
  pub laws : Lawful m
  pub once : distinct m.flows list ≡ true

pub sound : {m : Meaning} {n : ℕ} (list : List ℕ) → Lawful m → n ≡ m.flows → true ≡ distinct n list → Sound m list
sound list laws e d = record { laws = laws; once = ap (λ (k : ℕ). distinct k list) (sym e) ∙ sym d }

module _ (m : Meaning) (list : List ℕ) (s : Sound m list) where
  pub list_short : length list ≤ 20
  list_short = distinct_short m.flows list s.laws.few_flows s.once

  -- the bound of its flow i under those before it
  pub bound_told : (i : ℕ) (above : List ℕ) (r : Result (Option ℕ) Refusal) → i < length list → above ≡ take i list → r ≡ asked_bound m (get_or list i 0) above → r ≡ Ok (m.bound (get_or list i 0) (take i list))
  bound_told i above r h e q =
      q ∙ ap (asked_bound m (get_or list i 0)) e
      ∙ replied (proper m.flows (get_or list i 0) (take i list)) (m.bound (get_or list i 0) (take i list)) (proper_taken m.flows list i h s.once)

  -- the table of all its leading bounds
  pub all_told : (told : Bounds) → told ≡ table (leading m [] list) → Ok told ≡ asked_bounds m list
  all_told told e = ap Ok e ∙ sym (replied (distinct m.flows list) (table (leading m [] list)) s.once)

-- the flows that leading bounds are told of
module _ (m : Meaning) where
  told_most : (o : Option ℕ) (rest : List ℕ) → length (told o rest) ≤ suc (length rest)
  told_most None rest = omega arith
  told_most (Some r) rest = omega arith

  pub leading_most : (above list : List ℕ) → length (leading m above list) ≤ length list
  leading_most above [] = omega arith
  leading_most above (f ∷ fs) =
      let h = told_most (m.bound f above) (leading m (above ++ f ∷ []) fs) in
      let t = leading_most (above ++ f ∷ []) fs in
      omega arith

  told_drop : (o : Option ℕ) (rest : List ℕ) (k : ℕ) → suc k ≤ length (told o rest) → drop (suc k) (told o rest) ≡ drop k rest
  told_drop None rest k h = absurd (omega arith)
  told_drop (Some r) rest k h = refl

  leading_from : (above list : List ℕ) (k : ℕ) → k ≤ length (leading m above list) → drop k (leading m above list) ≡ leading m (above ++ take k list) (drop k list)
  leading_from above list zero h = ap (λ (xs : List ℕ). leading m xs list) (sym (append-nil above))
  leading_from above [] (suc k) h = absurd (omega arith)
  leading_from above (f ∷ fs) (suc k) h =
      let t = told_most (m.bound f above) (leading m (above ++ f ∷ []) fs) in
      told_drop (m.bound f above) (leading m (above ++ f ∷ []) fs) k h
      ∙ leading_from (above ++ f ∷ []) fs k (omega arith)
      ∙ ap (λ (xs : List ℕ). leading m xs (drop k fs)) (append_assoc above (f ∷ []) (take k fs))

  some_told : (o : Option ℕ) (rest : List ℕ) (r : ℕ) (rs : List ℕ) → told o rest ≡ r ∷ rs → o ≡ Some r
  some_told None rest r rs e = let z : ◌≡◌ {A = ℕ} 0 1 = cc in absurd (omega arith)
  some_told (Some s) rest r rs e = cc

  none_told : (o : Option ℕ) (rest : List ℕ) → told o rest ≡ [] → o ≡ None
  none_told None rest e = refl
  none_told (Some s) rest e = let z : ◌≡◌ {A = ℕ} 0 1 = cc in absurd (omega arith)

  -- the flow at k has the bound that is told there
  pub leading_at : (list : List ℕ) (k : ℕ) → k < length (leading m [] list) → m.bound (get_or list k 0) (take k list) ≡ Some (get_or (leading m [] list) k 0)
  leading_at list k h =
      some_told (m.bound (get_or list k 0) (take k list)) _ _ (drop (k + 1) (leading m [] list))
      (sym (at_drop_more (leading m (take k list)) list k 0 (omega (arith, leading_most [] list)))
      ∙ sym (leading_from [] list k (omega arith)) ∙ drop_more (leading m [] list) k 0 h)

  -- the flow after the last of them has none
  pub leading_stops : (list : List ℕ) (k : ℕ) → k ≡ length (leading m [] list) → k < length list → m.bound (get_or list k 0) (take k list) ≡ None
  leading_stops list k e h =
      none_told (m.bound (get_or list k 0) (take k list)) _
      (sym (at_drop_more (leading m (take k list)) list k 0 h) ∙ sym (leading_from [] list k (omega arith)) ∙ drop_all k (leading m [] list) (omega arith))
