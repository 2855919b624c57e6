-- Candidates gathered flow by flow, and chosen flow by flow. Assumes nothing.
--   time_by            a time told from a rule's replies
--   Gathering          what is gathered of the flows seen so far
--   gathering_some, -skip, -all    one more flow with a time, or without one; no more flow
--   best_none, best_found    no flow to choose from; no more flow
use Rattle.std.proofs.Common.{◌≡◌, ℕ, zero, suc, ◌-◌, ◌≤◌, Bool, true, false, cond, ◌&&◌, ◌||◌, eqb, List, [], ◌∷◌, ◌++◌, length, get_or, replicate, is_some, Some, None, Option, Result, sym, refl, ap, ◌∙◌, ⊎_elim, arith}
use lib.ListN as ListN
use Rattle.std.proofs.lemmas.Bool.{both_ways, cases_eq, cond-true, cond-false, eq-eqb, ne_eqb, or_right, or_left}
use Rattle.std.proofs.lemmas.List.{get_or-set_same, get_or-set_other, length-set}
use Rattle.chip.specs.declared.refusal.Refusal.{Refusal}
use Rattle.rule.specs.Lists.{among, marks, has}
use Rattle.rule.specs.Meaning.{Meaning}
use Rattle.rule.specs.Questions.{asked_deadline}
use Rattle.rule.specs.FlowSets.{put, empty, members}
use Rattle.rule.proofs.Distinct.{among_push}
use Rattle.rule.proofs.Members.{among_members, marks_length, has_marks}
use Rattle.walk.specs.Choice.{keep, best, first_best, choice}
use Rattle.search.specs.Candidates.{told_slack, time_told, time_of, entry_of, chosen_by}
use Rattle.walk.proofs.Chosen.{has_keep, keep_length, members_none, some_empty}
use Rattle.walk.proofs.Sets.{has_put_same, has_put_other, put_length, same_set}

-- a time told from the replies to a question for flow f and the others
pub time_by : (m : Meaning) (asked : ℕ → List Bool → Result (Option ℕ) Refusal) (free others : List Bool) (f : ℕ) (answer : Result (Option ℕ) Refusal) (deadline : Result ℕ Refusal) → others ≡ put free f false → answer ≡ asked f others → deadline ≡ asked_deadline m f → told_slack answer deadline ≡ time_told m asked free f
unfolding time_told
time_by m asked free others f answer deadline o a d = rw (a, d, o) refl

-- what is gathered of the flows seen so far: those with a time, and by flow its time
pub record Gathering (times : ℕ → Option ℕ) (seen : List ℕ) (set : List Bool) (table : List ℕ) : Type 0 where
  pub set_sized : length set ≡ 20
  pub table_sized : length table ≡ 20
  pub kept : (f : ℕ) → 1 ≤ f → f ≤ 20 → has set f ≡ (among f seen && is_some (times f))
  pub entries : (f : ℕ) → 1 ≤ f → entry_of table f ≡ cond (among f seen) (time_of (times f)) 0

flow_at_least : (set : List Bool) (f : ℕ) → has set f ≡ true → 1 ≤ f
flow_at_least set zero h = absurd (both_ways false refl h)
flow_at_least set (suc i) h = omega arith

entry_none : (f : ℕ) → entry_of (replicate 20 0) f ≡ 0
entry_none f = each (f - 1)
  where
    zeros : (k i : ℕ) → get_or (replicate {A = ℕ} k 0) i 0 ≡ 0
    zeros zero i = refl
    zeros (suc k) zero = refl
    zeros (suc k) (suc i) = zeros k i

    each : (i : ℕ) → get_or (replicate {A = ℕ} 20 0) i 0 ≡ 0
    each i = zeros 20 i

-- a flow seen last, and the others
seen_last : (f : ℕ) (seen : List ℕ) → among f (seen ++ f ∷ []) ≡ true
seen_last f seen = among_push f f seen ∙ or_right (among f seen) (eqb f f) (eq-eqb f f refl)

seen_other : (g f : ℕ) (seen : List ℕ) → (g ≡ f → ⊥) → among g (seen ++ f ∷ []) ≡ among g seen
seen_other g f seen ne = among_push g f seen ∙ ap (λ (b : Bool). among g seen || b) (ne_eqb g f ne) ∙ or_none (among g seen)
  where
    or_none : (b : Bool) → (b || false) ≡ b
    or_none true = refl
    or_none false = refl

module _ (times : ℕ → Option ℕ) where
  pub gathering_none : Gathering times [] (marks []) (replicate 20 0)
  gathering_none = record { set_sized = marks_length []; table_sized = refl; kept = λ f h k. has_marks f [] h k; entries = λ f h. entry_none f }

  module _ (seen : List ℕ) (set : List Bool) (table : List ℕ) (f : ℕ) (low : 1 ≤ f) (high : f ≤ 20) (s : Gathering times seen set table) where
    -- one more flow, with a time
    pub gathering_some : (t : ℕ) → times f ≡ Some t → Gathering times (seen ++ f ∷ []) (put set f true) (ListN.set table (f - 1) t)
    gathering_some t e =
        record {
          set_sized = put_length set f true ∙ s.set_sized;
          table_sized = length-set table (f - 1) t ∙ s.table_sized;
          kept = λ g h l. ⊎_elim (same_kept g) (other_kept g h l) (cases_eq g f);
          entries = λ g h. ⊎_elim (same_entry g) (other_entry g h) (cases_eq g f);
        }
      where
        same_kept : (g : ℕ) → g ≡ f → has (put set f true) g ≡ (among g (seen ++ f ∷ []) && is_some (times g))
        same_kept g q = rw (q, seen_last f seen, e) (has_put_same set f true low (let a = s.set_sized in omega arith))

        other_kept : (g : ℕ) → 1 ≤ g → g ≤ 20 → (g ≡ f → ⊥) → has (put set f true) g ≡ (among g (seen ++ f ∷ []) && is_some (times g))
        other_kept g h l ne = rw (seen_other g f seen ne) (has_put_other set f g true ne ∙ s.kept g h l)

        same_entry : (g : ℕ) → g ≡ f → entry_of (ListN.set table (f - 1) t) g ≡ cond (among g (seen ++ f ∷ [])) (time_of (times g)) 0
        same_entry g q = rw (q, seen_last f seen, e) (get_or-set_same table (f - 1) t 0 (let a = s.table_sized in omega arith))

        other_entry : (g : ℕ) → 1 ≤ g → (g ≡ f → ⊥) → entry_of (ListN.set table (f - 1) t) g ≡ cond (among g (seen ++ f ∷ [])) (time_of (times g)) 0
        other_entry g h ne =
            rw (seen_other g f seen ne) (get_or-set_other table (f - 1) (g - 1) t 0 (λ (q : g - 1 ≡ f - 1). ne (omega arith)) ∙ s.entries g h)

    -- one more flow, without a time
    pub gathering_skip : times f ≡ None → Gathering times (seen ++ f ∷ []) set table
    gathering_skip e =
        record {
          set_sized = s.set_sized;
          table_sized = s.table_sized;
          kept = λ g h l. s.kept g h l ∙ ⊎_elim (same_kept g) (λ ne. rw (seen_other g f seen ne) refl) (cases_eq g f);
          entries = λ g h. s.entries g h ∙ ⊎_elim (same_entry g) (λ ne. rw (seen_other g f seen ne) refl) (cases_eq g f);
        }
      where
        and_none : (b : Bool) → (b && false) ≡ false
        and_none true = refl
        and_none false = refl

        no_time : (b : Bool) → cond {A = ℕ} b 0 0 ≡ 0
        no_time true = refl
        no_time false = refl

        same_kept : (g : ℕ) → g ≡ f → (among g seen && is_some (times g)) ≡ (among g (seen ++ f ∷ []) && is_some (times g))
        same_kept g q = rw (q, e, seen_last f seen) (and_none (among f seen))

        same_entry : (g : ℕ) → g ≡ f → cond (among g seen) (time_of (times g)) 0 ≡ cond (among g (seen ++ f ∷ [])) (time_of (times g)) 0
        same_entry g q = rw (q, e, seen_last f seen) (no_time (among f seen))

  -- no more flow
  module _ (free : List Bool) (sized : length free ≡ 20) (seen : List ℕ) (all : seen ≡ members free) (set : List Bool) (table : List ℕ) (s : Gathering times seen set table) where
    seen_free : (f : ℕ) → among f seen ≡ has free f
    seen_free f = ap (among f) all ∙ among_members f free

    pub gathered_kept : set ≡ keep (λ f. is_some (times f)) free
    gathered_kept =
        same_set set (keep (λ f. is_some (times f)) free) s.set_sized (keep_length (λ f. is_some (times f)) free ∙ sized)
        (λ f h k. s.kept f h k ∙ ap (λ (b : Bool). b && is_some (times f)) (seen_free f) ∙ sym (has_keep (λ f. is_some (times f)) free f))

    pub gathered_entries : (f : ℕ) → has free f ≡ true → entry_of table f ≡ time_of (times f)
    gathered_entries f h = s.entries f (flow_at_least free f h) ∙ cond-true (among f seen) (time_of (times f)) 0 (seen_free f ∙ h)

-- choosing: with f the first flow and b the best in the end
module _ (table : List ℕ) (set : List Bool) where
  pub best_none : members set ≡ [] → None ≡ chosen_by table set
  best_none e = sym (cond-true (empty set) None (Some (choice (entry_of table) set)) (members_none 1 set e))

  pub best_found : (b f : ℕ) (rest left : List ℕ) → members set ≡ f ∷ rest → best (entry_of table) f rest ≡ best (entry_of table) b left → left ≡ [] → Some b ≡ chosen_by table set
  best_found b f rest left e q n =
      ap Some (sym (ap (first_best (entry_of table)) e ∙ q ∙ ap (best (entry_of table) b) n))
      ∙ sym (cond-false (empty set) None (Some (choice (entry_of table) set)) (some_empty set f (sym (among_members f set) ∙ ap (among f) e ∙ or_left (eqb f f) (among f rest) (eq-eqb f f refl))))
