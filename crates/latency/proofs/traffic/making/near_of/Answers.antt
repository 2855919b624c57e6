-- Why `near_of` meets its contract. Assumes nothing.
use Rattle.std.proofs.Common.{◌≡◌, ℕ, ◌+◌, ◌-◌, ◌<◌, ◌≤◌, Bool, true, ◌⊎◌, List, [], map, length, get_or, sym, ap, ◌∙◌, inl, inr, arith}
use lib.ListN as ListN
use Rattle.std.proofs.lemmas.List.{length-map, length-set, map-set, get_or-set_same, get_or-set_other}
use Rattle.std.proofs.lemmas.Bool.{cases_eq}
use Rattle.std.proofs.lemmas.Bool.Decides.{nat_tests}
use Rattle.chip.specs.declared.parameters.FlowParameters.{FlowParameters}
use Rattle.rule.specs.Lists.{is_flow}
use Rattle.rule.specs.FlowSets.{marks_of}
use Rattle.rule.specs.declared.flow_set.FlowSet.{FlowSet}
use Rattle.rule.proofs.Distinct.{flow_range}
use Rattle.interference.specs.Tables.{row, routed, sharers}
use Rattle.interference.proofs.Sharers.{routed_at}
use Rattle.latency.proofs.traffic.making.near_of.Goals as goal

-- one row more
near_more : (fs : List FlowParameters) (n i : ℕ) (near : List FlowSet) (set : FlowSet) → i < length near → ((f : ℕ) → is_flow i f ≡ true → row near f ≡ sharers fs f n) → marks_of set ≡ sharers fs (i + 1) n → (f : ℕ) → is_flow (i + 1) f ≡ true → row (ListN.set near i set) f ≡ sharers fs f n
near_more fs n i near set room table here f asked = ap (λ (rows : List (List Bool)). get_or rows (f - 1) []) (map-set marks_of near i set) ∙ go (cases_eq f (i + 1))
  where
    range : (1 ≤ f) × (f ≤ i + 1)
    range = flow_range (i + 1) f asked

    earlier : (f ≡ i + 1 → ⊥) → is_flow i f ≡ true
    earlier n = let r = range in grind (arith, nat_tests)

    go : (f ≡ i + 1) ⊎ (f ≡ i + 1 → ⊥) → get_or (ListN.set (map marks_of near) i (marks_of set)) (f - 1) [] ≡ sharers fs f n
    go (inl e) =
        let j : f - 1 ≡ i = omega arith in
        ap (λ k. get_or (ListN.set (map marks_of near) i (marks_of set)) k []) j ∙ get_or-set_same (map marks_of near) i (marks_of set) [] (simp length-map room) ∙ here ∙ ap (λ k. sharers fs k n) (sym e)
    go (inr n) = get_or-set_other (map marks_of near) i (f - 1) (marks_of set) [] (λ e. n (omega (arith, range))) ∙ table f (earlier n)

pub loop-place-preserved : goal.loop-place-preserved
loop-place-preserved c =
    let routes = c.args.routes.now in
    let i : ℕ = c.loop-place.place in
    let own = routed_at routes i c.index-routes-place.result (omega arith) ∙ ap (λ r. r.flow.parameters) (sym c.index-routes-place.is) in (
      simp length-set c.loop-place.invariant.0,
      near_more (routed routes) (length routes) i c.loop-place.near c.sharers_of.result (omega arith) c.loop-place.invariant.1 (c.sharers_of.ensures (i + 1) own),
    )
