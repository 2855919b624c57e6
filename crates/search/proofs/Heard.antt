-- What a rule's replies say of the unplaced flows: each is asked a proper question. Assumes nothing.
--   floors_kept, ceilings_kept    the flows with a reply are those with a floor, or a ceiling
--   heard_time, floor_row         the times told are those between answer and deadline
--   settled_told, -some, -none    the flow by which a level is settled by ceiling, if it is
--   opened_by_floor, -ceiling     the candidates of a level
--   keep_same, choice_same    tests and keys that agree on a set
use Rattle.std.proofs.Common.{◌≡◌, ℕ, suc, ◌+◌, ◌≤◌, Bool, true, false, cond, not, ◌&&◌, ◌||◌, eqb, ltb, leb, List, [], ◌∷◌, length, get_or, is_some, Some, None, Ok, Option, Result, sym, refl, ap, ◌∙◌, subst, ⊎_elim, add-zero, arith}
use Rattle.std.proofs.lemmas.Bool.{both_ways, cases_eq, le-leb, and_from, or_right, cond_both, eq-eqb, and_parts, cond-true, cond-false}
use Rattle.chip.specs.declared.refusal.Refusal.{Refusal}
use Rattle.rule.specs.FlowSets.{marks_of, put, empty, members}
use Rattle.rule.specs.Laws.{Lawful}
use Rattle.rule.specs.Lists.{is_flow, among, within_from, within, proper_set, marks, has}
use Rattle.rule.specs.Meaning.{Meaning, answer}
use Rattle.rule.specs.Questions.{asked_deadline, asked_floor, asked_ceiling}
use Rattle.rule.proofs.Members.{among_members, marks_cons}
use Rattle.rule.proofs.Distinct.{flow_range}
use Rattle.rule.proofs.Told.{replied}
use Rattle.search.specs.declared.candidates.Candidates.{Candidates}
use Rattle.walk.specs.Choice.{keep_from, keep, slack, best, first_best, choice}
use Rattle.walk.specs.Walk.{ceiling_at, ceiling_slack, with_floor, with_ceiling, by_ceiling, settled_by_ceiling, candidates}
use Rattle.search.specs.Candidates.{told_slack, time_told, time_of, entry_of, Gathered, chosen_by}
use Rattle.search.specs.Tables.{Row, FlowsOnly}
use Rattle.walk.proofs.Chosen.{has_keep}
use Rattle.walk.proofs.Sets.{has_put_same, has_put_other}

-- tests that agree on a set keep the same flows of it
keep_from_same : (test other : ℕ → Bool) (i : ℕ) (set : List Bool) → ((j : ℕ) → get_or set j false ≡ true → test (i + j) ≡ other (i + j)) → keep_from test i set ≡ keep_from other i set
keep_from_same test other i [] h = refl
keep_from_same test other i (mark ∷ set) h =
    let e = keep_from_same test other (suc i) set (λ j k. let q : suc i + j ≡ i + suc j = omega arith in ap test q ∙ h (suc j) k ∙ ap other (sym q)) in
    first mark (h 0) e
  where
    first : (b : Bool) → (b ≡ true → test (i + 0) ≡ other (i + 0)) → keep_from test (suc i) set ≡ keep_from other (suc i) set → (b && test i) ∷ keep_from test (suc i) set ≡ (b && other i) ∷ keep_from other (suc i) set
    first true k e = let q = add-zero i in let r = k refl in let s : test i ≡ other i = ap test (sym q) ∙ r ∙ ap other q in cc
    first false k e = ap (λ (xs : List Bool). false ∷ xs) e

pub keep_same : (test other : ℕ → Bool) (set : List Bool) → ((f : ℕ) → has set f ≡ true → test f ≡ other f) → keep test set ≡ keep other set
keep_same test other set h =
    keep_from_same test other 1 set (λ j k. let q : 1 + j ≡ suc j = omega arith in ap test q ∙ h (suc j) k ∙ ap other (sym q))

-- keys that agree on a set choose the same flow of it
best_same : (key other : ℕ → ℕ) (g : ℕ) (hs : List ℕ) → key g ≡ other g → ((x : ℕ) → among x hs ≡ true → key x ≡ other x) → best key g hs ≡ best other g hs
best_same key other g [] e h = refl
best_same key other g (x ∷ xs) e h =
    let f : key x ≡ other x = h x (rw (eq-eqb x x refl) refl) in
    let d : ltb (key g) (key x) ≡ ltb (other g) (other x) = rw (e, f) refl in
    let rest : (y : ℕ) → among y xs ≡ true → key y ≡ other y = λ y a. h y (or_right (eqb y x) (among y xs) a) in
    let c : key (cond (ltb (other g) (other x)) x g) ≡ other (cond (ltb (other g) (other x)) x g) = cond_both (ltb (other g) (other x)) x g (λ y. key y ≡ other y) (λ q. f) (λ q. e) in
    rw d (best_same key other (cond (ltb (other g) (other x)) x g) xs c rest)

pub choice_same : (key other : ℕ → ℕ) (set : List Bool) → ((f : ℕ) → has set f ≡ true → key f ≡ other f) → choice key set ≡ choice other set
choice_same key other set h = each (members set) (λ f a. h f (sym (among_members f set) ∙ a))
  where
    each : (xs : List ℕ) → ((f : ℕ) → among f xs ≡ true → key f ≡ other f) → first_best key xs ≡ first_best other xs
    each [] k = refl
    each (x ∷ xs) k = best_same key other x xs (k x (rw (eq-eqb x x refl) refl)) (λ y a. k y (or_right (eqb y x) (among y xs) a))

within_by : (n i : ℕ) (set : List Bool) → ((j : ℕ) → get_or set j false ≡ true → i + j ≤ n) → within_from n i set ≡ true
within_by n i [] h = refl
within_by n i (mark ∷ set) h =
    and_from (not mark || leb i n) (within_from n (suc i) set) (first mark (h 0)) (within_by n (suc i) set (λ j k. let q = h (suc j) k in omega arith))
  where
    first : (b : Bool) → (b ≡ true → i + 0 ≤ n) → (not b || leb i n) ≡ true
    first true k = le-leb i n (let q = k refl in omega arith)
    first false k = refl

-- the reply to a question that is answered so
abbrev replies : Meaning → (ℕ → List Bool → Option ℕ) → ℕ → List Bool → Result (Option ℕ) Refusal
replies m of f set = answer (proper_set m.flows f set) (of f set)

told_some : (d : ℕ) (o : Option ℕ) → is_some (told_slack (Ok o) (Ok d)) ≡ is_some o
told_some d None = refl
told_some d (Some r) = refl

told_time : (d : ℕ) (o : Option ℕ) → time_of (told_slack (Ok o) (Ok d)) ≡ slack d o
told_time d None = refl
told_time d (Some r) = refl

module _ (m : Meaning) (laws : Lawful m) (free : List Bool) (sized : length free ≡ 20) (only : FlowsOnly m free) (f : ℕ) (member : has free f ≡ true) where
  asked : proper_set m.flows f (put free f false) ≡ true
  asked =
      and_from (is_flow m.flows f && within m.flows (put free f false)) (not (has (put free f false) f))
      (and_from (is_flow m.flows f) (within m.flows (put free f false)) (only f member) (within_by m.flows 1 (put free f false) each))
      (ap not gone)
    where
      range : (1 ≤ f) × (f ≤ m.flows)
      range = flow_range m.flows f (only f member)

      gone : has (put free f false) f ≡ false
      gone = has_put_same free f false range.0 (let r = range.1 in let l = laws.few_flows in omega arith)

      each : (j : ℕ) → get_or (put free f false) j false ≡ true → 1 + j ≤ m.flows
      each j k = ⊎_elim (λ (e : suc j ≡ f). absurd (both_ways (has (put free f false) (suc j)) (subst (λ (x : ℕ). has (put free f false) x ≡ false) (sym e) gone) k)) (λ ne. let r = flow_range m.flows (suc j) (only (suc j) (sym (has_put_other free f (suc j) false ne) ∙ k)) in let s = r.1 in omega arith) (cases_eq (suc j) f)

  module _ (of : ℕ → List Bool → Option ℕ) where
    heard : time_told m (replies m of) free f ≡ told_slack (Ok (of f (put free f false))) (Ok (m.deadline f))
    unfolding time_told
    heard =
        ap (λ (x : Result (Option ℕ) Refusal). told_slack x (asked_deadline m f)) (replied (proper_set m.flows f (put free f false)) (of f (put free f false)) asked)
        ∙ ap (told_slack (Ok (of f (put free f false)))) (replied (is_flow m.flows f) (m.deadline f) (only f member))

    heard_some : is_some (time_told m (replies m of) free f) ≡ is_some (of f (put free f false))
    heard_some = ap is_some heard ∙ told_some (m.deadline f) (of f (put free f false))

    -- the times told are those between answer and deadline
    pub heard_time : time_of (time_told m (replies m of) free f) ≡ slack (m.deadline f) (of f (put free f false))
    heard_time = ap time_of heard ∙ told_time (m.deadline f) (of f (put free f false))

-- the flows with a reply are those with an answer
module _ (m : Meaning) (laws : Lawful m) (free : List Bool) (sized : length free ≡ 20) (only : FlowsOnly m free) where
  kept_of : (of : ℕ → List Bool → Option ℕ) → keep (λ f. is_some (time_told m (replies m of) free f)) free ≡ keep (λ f. is_some (of f (put free f false))) free
  kept_of of = keep_same (λ f. is_some (time_told m (replies m of) free f)) (λ f. is_some (of f (put free f false))) free (λ f h. heard_some m laws free sized only f h of)

  pub floors_kept : keep (λ f. is_some (time_told m (asked_floor m) free f)) free ≡ with_floor m free
  floors_kept = kept_of m.floor

  pub ceilings_kept : keep (λ f. is_some (time_told m (asked_ceiling m) free f)) free ≡ with_ceiling m free
  ceilings_kept = kept_of m.ceiling

  -- the times by which candidates are chosen
  pub floor_row : (r : Candidates) → Gathered (time_told m (asked_floor m) free) free r → Row m free r.slack
  floor_row r t f h = t.entries f h ∙ heard_time m laws free sized only f h m.floor

  -- the flow chosen by ceiling, if there is one
  pub settled_told : (r : Candidates) → Gathered (time_told m (asked_ceiling m) free) free r → chosen_by r.slack (marks_of r.set) ≡ cond (settled_by_ceiling m true free) (Some (by_ceiling m free)) None
  settled_told r t =
      ap (chosen_by r.slack) (t.kept ∙ ceilings_kept)
      ∙ ap (λ (f : ℕ). cond (empty (with_ceiling m free)) None (Some f)) (choice_same (entry_of r.slack) (ceiling_slack m free) (with_ceiling m free) each)
      ∙ turned (empty (with_ceiling m free))
    where
      each : (f : ℕ) → has (with_ceiling m free) f ≡ true → entry_of r.slack f ≡ ceiling_slack m free f
      each f h =
          let k = (and_parts (has free f) (is_some (ceiling_at m free f)) (sym (has_keep (λ x. is_some (ceiling_at m free x)) free f) ∙ h)).0 in
          t.entries f k ∙ heard_time m laws free sized only f k m.ceiling

      turned : (b : Bool) → cond b None (Some (by_ceiling m free)) ≡ cond (true && not b) (Some (by_ceiling m free)) None
      turned true = refl
      turned false = refl

-- the candidates of a level by floor, and by ceiling
module _ (m : Meaning) (sure : Bool) (free : List Bool) where
  pub opened_by_floor : settled_by_ceiling m sure free ≡ false → with_floor m free ≡ candidates m sure free
  unfolding candidates
  opened_by_floor e = sym (cond-false (settled_by_ceiling m sure free) (marks (by_ceiling m free ∷ [])) (with_floor m free) e)

  pub opened_by_ceiling : (one : ℕ) (none set : List Bool) → settled_by_ceiling m sure free ≡ true → one ≡ by_ceiling m free → none ≡ marks [] → set ≡ put none one true → set ≡ candidates m sure free
  unfolding candidates
  opened_by_ceiling one none set e o n s =
      s ∙ ap (λ (x : List Bool). put x one true) n ∙ sym (marks_cons one []) ∙ ap (λ (x : ℕ). marks (x ∷ [])) o
      ∙ sym (cond-true (settled_by_ceiling m sure free) (marks (by_ceiling m free ∷ [])) (with_floor m free) e)

  -- whether a flow is told decides which
  pub settled_some : (f : ℕ) → Some f ≡ cond (settled_by_ceiling m sure free) (Some (by_ceiling m free)) None → (settled_by_ceiling m sure free ≡ true) × (f ≡ by_ceiling m free)
  settled_some f e = each (settled_by_ceiling m sure free) refl e
    where
      each : (b : Bool) → settled_by_ceiling m sure free ≡ b → Some f ≡ cond b (Some (by_ceiling m free)) None → (settled_by_ceiling m sure free ≡ true) × (f ≡ by_ceiling m free)
      each true d q = (d, cc)
      each false d q = let z : ◌≡◌ {A = ℕ} 0 1 = cc in absurd (omega arith)

  pub settled_sure : (r : Option ℕ) → r ≡ cond (settled_by_ceiling m sure free) (Some (by_ceiling m free)) None → is_some r ≡ settled_by_ceiling m sure free
  settled_sure r e = ap is_some e ∙ each (settled_by_ceiling m sure free)
    where
      each : (b : Bool) → is_some (cond b (Some (by_ceiling m free)) None) ≡ b
      each true = refl
      each false = refl

  pub settled_none : None ≡ cond (settled_by_ceiling m sure free) (Some (by_ceiling m free)) None → settled_by_ceiling m sure free ≡ false
  settled_none e = each (settled_by_ceiling m sure free) refl e
    where
      each : (b : Bool) → settled_by_ceiling m sure free ≡ b → None ≡ cond b (Some (by_ceiling m free)) None → settled_by_ceiling m sure free ≡ false
      each true d q = let z : ◌≡◌ {A = ℕ} 0 1 = cc in absurd (omega arith)
      each false d q = d
