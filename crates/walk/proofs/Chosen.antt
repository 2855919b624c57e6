-- The choice among candidates: it is the flow with the largest key, and of several such the smallest. Assumes nothing.
--   has_keep     a flow passes into what is kept exactly if it is in the set and passes the test
--   chosen       the choice of a set that is not empty
use Rattle.std.proofs.Common.{◌≡◌, ℕ, zero, suc, ◌+◌, ◌<◌, ◌≤◌, Bool, true, false, cond, ◌&&◌, eqb, ltb, ◌⊎◌, List, [], ◌∷◌, length, get_or, sym, refl, ap, ◌∙◌, inl, inr, ⊎_elim, add-zero, arith}
use Rattle.std.proofs.lemmas.Bool.Decides.{nat_tests}
use Rattle.std.proofs.lemmas.Bool.{both_ways, ltb-true, ltb-false, eqb-true, or_cases, or_left, or_right}
use Rattle.rule.specs.Lists.{among, has}
use Rattle.rule.specs.FlowSets.{empty, members_from, members}
use Rattle.rule.proofs.Members.{among_members}
use Rattle.walk.specs.Choice.{keep_from, keep, best, first_best, choice, Chosen}

keep_from_at : (test : ℕ → Bool) (i j : ℕ) (set : List Bool) → get_or (keep_from test i set) j false ≡ (get_or set j false && test (i + j))
keep_from_at test i j [] = refl
keep_from_at test i zero (mark ∷ set) = ap (λ (x : ℕ). mark && test x) (sym (add-zero i))
keep_from_at test i (suc j) (mark ∷ set) =
    let e : suc i + j ≡ i + suc j = omega arith in
    keep_from_at test (suc i) j set ∙ ap (λ (x : ℕ). get_or set j false && test x) e

-- a flow is kept exactly if it is in the set and passes the test
pub has_keep : (test : ℕ → Bool) (set : List Bool) (g : ℕ) → has (keep test set) g ≡ (has set g && test g)
has_keep test set zero = refl
has_keep test set (suc i) =
    let e : 1 + i ≡ suc i = omega arith in
    keep_from_at test 1 i set ∙ ap (λ (x : ℕ). get_or set i false && test x) e

keep_from_length : (test : ℕ → Bool) (i : ℕ) (set : List Bool) → length (keep_from test i set) ≡ length set
keep_from_length test i [] = refl
keep_from_length test i (mark ∷ set) = ap suc (keep_from_length test (suc i) set)

pub keep_length : (test : ℕ → Bool) (set : List Bool) → length (keep test set) ≡ length set
keep_length test set = keep_from_length test 1 set

-- each flow of a list is above those before it, and the first is above g
abbrev Rising : ℕ → List ℕ → Type 0
Rising g [] = Unit {0}
Rising g (h ∷ hs) = (g < h) × Rising h hs

rising_less : (f g : ℕ) (hs : List ℕ) → f < g → Rising g hs → Rising f hs
rising_less f g [] l r = tt
rising_less f g (h ∷ hs) l r = let s = r.0 in (omega arith, r.1)

members_rising : (i : ℕ) (set : List Bool) → Rising i (members_from (suc i) set)
members_rising i [] = tt
members_rising i (true ∷ set) = (omega arith, members_rising (suc i) set)
members_rising i (false ∷ set) = rising_less i (suc i) (members_from (suc (suc i)) set) (omega arith) (members_rising (suc i) set)

-- b is one of g and the flows of a list, and comes before each of them by key and number
record Best (key : ℕ → ℕ) (g : ℕ) (hs : List ℕ) (b : ℕ) : Type 0 where
  one : (b ≡ g) ⊎ (among b hs ≡ true)
  over_first : (key g < key b) ⊎ ((key g ≡ key b) × (b ≤ g))
  over : (x : ℕ) → among x hs ≡ true → (key x < key b) ⊎ ((key x ≡ key b) × (b ≤ x))

module _ (key : ℕ → ℕ) where
  best_next : (g h b : ℕ) (hs : List ℕ) → key g < key h → Best key h hs b → Best key g (h ∷ hs) b
  best_next g h b hs l s =
      record {
        one = ⊎_elim (λ (e : b ≡ h). inr (rw e (grind (arith, nat_tests)))) (λ (a : among b hs ≡ true). inr (or_right (eqb b h) (among b hs) a)) s.one;
        over_first = inl (⊎_elim (λ (p : key h < key b). omega arith) (λ (p : (key h ≡ key b) × (b ≤ h)). omega arith) s.over_first);
        over =
            λ x a.
            ⊎_elim (λ (e : eqb x h ≡ true). rw (eqb-true x h e) s.over_first) (λ (q : among x hs ≡ true). s.over x q)
            (or_cases (eqb x h) (among x hs) a);
      }

  best_stays : (g h b : ℕ) (hs : List ℕ) → g < h → key h ≤ key g → Best key g hs b → Best key g (h ∷ hs) b
  best_stays g h b hs r l s =
      record {
        one = ⊎_elim (λ (e : b ≡ g). inl e) (λ (a : among b hs ≡ true). inr (or_right (eqb b h) (among b hs) a)) s.one;
        over_first = s.over_first;
        over =
            λ x a.
            ⊎_elim (λ (e : eqb x h ≡ true). rw (eqb-true x h e) second) (λ (q : among x hs ≡ true). s.over x q)
            (or_cases (eqb x h) (among x hs) a);
      }
    where
      second : (key h < key b) ⊎ ((key h ≡ key b) × (b ≤ h))
      second = let f = s.over_first in grind arith

  best_law : (g : ℕ) (hs : List ℕ) → Rising g hs → Best key g hs (best key g hs)
  best_law g [] r = record { one = inl refl; over_first = inr (refl, omega arith); over = λ x a. absurd (both_ways false refl a) }
  best_law g (h ∷ hs) r = each (ltb (key g) (key h)) refl (best_law h hs r.1) (best_law g hs (rising_less g h hs r.0 r.1))
    where
      each : (b : Bool) → ltb (key g) (key h) ≡ b → Best key h hs (best key h hs) → Best key g hs (best key g hs) → Best key g (h ∷ hs) (best key (cond b h g) hs)
      each true e p q = best_next g h (best key h hs) hs (ltb-true (key g) (key h) e) p
      each false e p q = best_stays g h (best key g hs) hs r.0 (ltb-false (key g) (key h) e) q

pub members_none : (i : ℕ) (set : List Bool) → members_from i set ≡ [] → empty set ≡ true
members_none i [] e = refl
members_none i (true ∷ set) e = let z : ◌≡◌ {A = ℕ} 0 1 = cc in absurd (omega arith)
members_none i (false ∷ set) e = members_none (suc i) set e

-- a set has a flow unless it is empty
pub some_empty : (set : List Bool) (g : ℕ) → has set g ≡ true → empty set ≡ false
some_empty [] zero e = absurd (both_ways false refl e)
some_empty [] (suc i) e = absurd (both_ways false refl e)
some_empty (true ∷ set) g e = refl
some_empty (false ∷ set) zero e = absurd (both_ways false refl e)
some_empty (false ∷ set) (suc zero) e = absurd (both_ways false refl e)
some_empty (false ∷ set) (suc (suc i)) e = some_empty set (suc i) e

module _ (key : ℕ → ℕ) (set : List Bool) where
  inside_by : (b : ℕ) → among b (members set) ≡ true → has set b ≡ true
  inside_by b a = sym (among_members b set) ∙ a

  best_chosen : (g : ℕ) (hs : List ℕ) → members set ≡ g ∷ hs → Best key g hs (best key g hs) → Chosen key set (best key g hs)
  best_chosen g hs e s =
      record {
        inside = inside_by (best key g hs) (ap (among (best key g hs)) e ∙ ⊎_elim (λ (p : best key g hs ≡ g). or_left (eqb (best key g hs) g) (among (best key g hs) hs) (rw p (grind (arith, nat_tests)))) (λ (p : among (best key g hs) hs ≡ true). or_right (eqb (best key g hs) g) (among (best key g hs) hs) p) s.one);
        largest = λ h i. let p = before h i in grind arith;
        smallest = λ h i q. let p = before h i in grind arith;
      }
    where
      before : (h : ℕ) → has set h ≡ true → (key h < key (best key g hs)) ⊎ ((key h ≡ key (best key g hs)) × (best key g hs ≤ h))
      before h i =
          ⊎_elim (λ (p : eqb h g ≡ true). rw (eqb-true h g p) s.over_first) (λ (p : among h hs ≡ true). s.over h p)
          (or_cases (eqb h g) (among h hs) (sym (ap (among h) e) ∙ among_members h set ∙ i))

  -- the choice of a set that is not empty
  pub chosen : empty set ≡ false → Chosen key set (choice key set)
  chosen some = each (members set) refl (members_rising 0 set)
    where
      each : (xs : List ℕ) → members set ≡ xs → Rising 0 xs → Chosen key set (first_best key xs)
      each [] e r = absurd (both_ways (empty set) some (members_none 1 set e))
      each (g ∷ hs) e r = best_chosen g hs e (best_law key g hs r.1)
