-- The pairs of a job offered to a precedence over its flows: each is taken. Assumes nothing.
use Rattle.std.proofs.Common.{zero, ◌≡◌, ℕ, ◌+◌, ◌<◌, ◌≤◌, true, List, [], ◌∷◌, ◌++◌, map, length, drop, Some, Option, inl, inr, suc, sym, refl, ap, ◌∙◌, ap₂, arith, length-append}
use Rattle.std.specs.List.{slice_get, range_with_len, cons_option}
use Rattle.std.specs.Option.{option_map}
use Rattle.std.proofs.lemmas.List.{append_assoc, append-nil, drop_all, drop_more}
use Rattle.std.proofs.lemmas.Option.{slice_get_cases}
use Rattle.std.proofs.lemmas.Bool.{and_parts, lt-ltb}
use Rattle.chip.specs.declared.parameters.FlowParameters.{FlowParameters}
use Rattle.sheet.specs.declared.letter.Letter.{Letter}
use Rattle.sheet.specs.declared.letter.Letter.TheVariants.{D, J, L}
use Rattle.sheet.specs.declared.pair.Pair as sheet
use Rattle.job.specs.Jobs.{Contents}
use Rattle.sheet.specs.Pairs.{pair_holds, pairs_hold}
use Rattle.precedence.specs.declared.pair.Pair.{Pair}
use Rattle.precedence.specs.declared.precedence.Precedence.{Precedence}
use Rattle.reserve.specs.declared.reserve.Reserve.{Reserve}
use Rattle.precedence.specs.Held.{pairs_of, after_add}
use Rattle.precedence.specs.Pairs.{two_flows, with_pairs}
use Rattle.reserve.specs.Reserves.{with_reserve}
use Rattle.any_rule.specs.declared.any_rule.AnyRule.{AnyRule}
use Rattle.any_rule.specs.AnyRules.{meaning_any, meaning_by}
use Rattle.planner.specs.JobRules.{numbered, offers, ticks_or_0, job_meaning, judged, taken}
use Rattle.planner.proofs.Places.{numbered_two}

-- places that hold the images of a list's items from i on, as far as there are any
module _ {X : Type 0} (f : X → Pair) (xs : List X) where
  abbrev pub places : ℕ → ℕ → List (Option Pair)
  places i n = map (λ k. option_map f (slice_get xs k)) (range_with_len i n)

  offers_from : (n i : ℕ) → length xs ≤ i + n → offers (places i n) ≡ map f (drop i xs)
  offers_from zero i h = ap (map f) (sym (drop_all i xs (omega arith)))
  offers_from (suc n) i h =
      let rest = offers_from n (i + 1) (omega arith) in
      elim (slice_get_cases xs i).1 [
        | inl p ↦
            ap (λ o. cons_option (option_map f o) (offers (places (i + 1) n))) p.2
            ∙ ap (λ qs. f p.0 ∷ qs) rest
            ∙ ap (λ x. f x ∷ map f (drop (i + 1) xs)) (sym p.3)
            ∙ ap (map f) (sym (drop_more xs i p.0 p.1))
        | inr p ↦
            ap (λ o. cons_option (option_map f o) (offers (places (i + 1) n))) p.1
            ∙ rest
            ∙ ap (map f) (drop_all (i + 1) xs (omega arith) ∙ sym (drop_all i xs (omega arith)))
      ]

  pub offers_all : length xs ≤ 16 → offers (places 0 16) ≡ map f xs
  offers_all few = offers_from 16 0 (omega arith)

-- a pair of two flows is taken while there is room
added : (n : ℕ) (ps : List Pair) (q : Pair) → two_flows n q ≡ true → length ps < 16 → after_add n ps q ≡ ps ++ q ∷ []
added n ps q two room = rw (two, lt-ltb (length ps) 16 room) refl

-- each of the pairs does what all of them do
pub holds_at : (fs : List FlowParameters) (qs : List sheet.Pair) (i : ℕ) (q : sheet.Pair) → pairs_hold fs qs ≡ true → slice_get qs i ≡ Some q → pair_holds fs q ≡ true
holds_at fs [] i q h e = absurd (cc e)
holds_at fs (p ∷ qs) zero q h e = let same : p ≡ q = cc in ap (pair_holds fs) (sym same) ∙ (and_parts (pair_holds fs p) (pairs_hold fs qs) h).0
holds_at fs (p ∷ qs) (suc i) q h e = holds_at fs qs i q (and_parts (pair_holds fs p) (pairs_hold fs qs) h).1 e

-- pairs that name flows of a sheet are taken, all in their order
pub offered : (fs : List FlowParameters) (ps : List Pair) (qs : List sheet.Pair) → pairs_hold fs qs ≡ true → length ps + length qs ≤ 16 → taken (length fs) ps (map (numbered fs) qs) ≡ ps ++ map (numbered fs) qs
offered fs ps [] h room = sym (append-nil ps)
offered fs ps (q ∷ qs) h room =
    let parts = and_parts (pair_holds fs q) (pairs_hold fs qs) h in
    ap (λ (held : List Pair). taken (length fs) held (map (numbered fs) qs)) (added (length fs) ps (numbered fs q) (numbered_two fs q parts.0) (omega arith))
    ∙ offered fs (ps ++ numbered fs q ∷ []) qs parts.1 (simp length-append (omega arith))
    ∙ append_assoc ps (numbered fs q ∷ []) (map (numbered fs) qs)

-- the rule of a letter has the flows of its chip
pub letter_flows : (l : Letter) (fs : List FlowParameters) → (meaning_by l fs).flows ≡ length fs
letter_flows D fs = refl
letter_flows J fs = refl
letter_flows L fs = refl

-- what a job's rule answers, part by part
pub judged_job : (j : Contents) (r : Precedence (Reserve AnyRule)) → pairs_of r.pairs ≡ map (numbered j.flows) j.pairs → r.rule.ticks.count ≡ ticks_or_0 j.reserve → meaning_any r.rule.rule ≡ meaning_by j.letter j.flows → judged r ≡ job_meaning j
judged_job j r pairs ticks rule = ap₂ with_pairs pairs (ap₂ with_reserve ticks rule)
