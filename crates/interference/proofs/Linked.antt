-- The flows that rule L counts, found by taking away what no direct flow shares with. Assumes nothing.
use Rattle.std.proofs.Common.{◌≡◌, ℕ, Bool, true, false, not, ◌&&◌, ◌||◌, List, [], ◌∷◌, length, filter, sym, refl, ap, ◌∙◌, ap₂}
use Rattle.chip.specs.declared.parameters.FlowParameters.{FlowParameters}
use Rattle.rule.specs.Lists.{is_flow, among, has, within}
use Rattle.rule.specs.FlowSets.{less, members}
use Rattle.rule.proofs.Members.{among_members}
use Rattle.interference.specs.Interference.{share, any, direct}
use Rattle.interference.specs.Rules.{counts_L}
use Rattle.interference.proofs.Kept.{has_less, less_kept, kept_same, among_kept, any_kept}
use Rattle.interference.proofs.Walking.{within_flows}

-- whether flow g is left apart once the flows still to come have been gone through
abbrev pub apart_at : List FlowParameters → List Bool → List ℕ → ℕ → Bool
apart_at fs apart coming g = has apart g && not (any (λ k. share fs g k) coming)

and_not_or : (a p q : Bool) → ((a && not p) && not q) ≡ (a && not (p || q))
and_not_or true true q = refl
and_not_or true false q = refl
and_not_or false p q = refl

-- one flow gone through
pub apart_more : (fs : List FlowParameters) (apart near : List Bool) (before after : List ℕ) (k g : ℕ) → length apart ≡ length near → before ≡ k ∷ after → has near g ≡ share fs g k → apart_at fs (less apart near) after g ≡ apart_at fs apart before g
apart_more fs apart near before after k g sized e own =
    ap (λ b. b && not (any (λ j. share fs g j) after)) (has_less apart near g sized ∙ ap (λ b. has apart g && not b) own)
    ∙ and_not_or (has apart g) (share fs g k) (any (λ j. share fs g j) after)
    ∙ ap (λ gs. apart_at fs apart gs g) (sym e)

not_apart : (d a : Bool) → not (not d && not a) ≡ (d || (a && not d))
not_apart true a = refl
not_apart false true = refl
not_apart false false = refl

-- what is not apart counts
pub linked_kept : (fs : List FlowParameters) (f n : ℕ) (set near apart : List Bool) → length set ≡ length near → length set ≡ length apart → within n set ≡ true → members near ≡ filter (direct fs f) (members set) → ((g : ℕ) → is_flow n g ≡ true → has apart g ≡ apart_at fs (less set near) (members near) g) → members (less set apart) ≡ filter (counts_L fs f (members set)) (members set)
linked_kept fs f n set near apart sized also flows kept rest =
    less_kept set apart also ∙ kept_same (λ g. not (has apart g)) (counts_L fs f (members set)) (members set) each
  where
    each : (g : ℕ) → among g (members set) ≡ true → not (has apart g) ≡ counts_L fs f (members set) g
    each g asked =
        let inside : has set g ≡ true = sym (among_members g set) ∙ asked in
        let own : has near g ≡ direct fs f g = sym (among_members g near) ∙ ap (among g) kept ∙ among_kept (direct fs f) (members set) g asked in
        let others : any (λ k. share fs g k) (members near) ≡ any (λ k. direct fs f k && share fs g k) (members set) = ap (any (λ k. share fs g k)) kept ∙ any_kept (λ k. share fs g k) (direct fs f) (members set) in
        let start : has (less set near) g ≡ not (direct fs f g) = has_less set near g sized ∙ ap₂ (λ a b. a && not b) inside own in
        ap not (rest g (within_flows n set flows g asked) ∙ ap₂ (λ a b. a && not b) start others)
        ∙ not_apart (direct fs f g) (any (λ k. direct fs f k && share fs g k) (members set))

and_true : (b : Bool) → b ≡ (b && true)
and_true true = refl
and_true false = refl

-- with no flow still to come, a flow is apart as it stands
pub apart_done : (fs : List FlowParameters) (apart : List Bool) (coming : List ℕ) (g : ℕ) → coming ≡ [] → has apart g ≡ apart_at fs apart coming g
apart_done fs apart coming g e = and_true (has apart g) ∙ ap (λ gs. apart_at fs apart gs g) (sym e)
