-- Why `Traffic::new` meets its contract. Assumes nothing.
use Rattle.std.proofs.Common.{◌≡◌, ℕ, true, ◌&&◌, List, map, length, take, sym, ap, ◌∙◌, subst, arith}
use Rattle.std.proofs.lemmas.List.{length-take-le}
use Rattle.chip.specs.declared.flow.Flow.{Flow}
use Rattle.chip.specs.declared.route.Route.{Route}
use Rattle.rule.specs.Lists.{is_flow, has}
use Rattle.latency.specs.Chips.{chip}
use Rattle.interference.specs.Interference.{share}
use Rattle.interference.specs.Tables.{chip_of, row, routed, sharers}
use Rattle.interference.proofs.Sharers.{has_sharers}
use Rattle.latency.proofs.traffic.Traffic.new.Goals as goal

-- the flows of the routes
route_flows : (c : goal.After-near_of) → routed (take (length c.args.flows.now) c.routes_of-routes.result) ≡ chip_of (length c.args.flows.now) c.table_of.result
route_flows c =
    c.routes_of-routes.ensures ∙ sym (ap (map (λ (x : Flow). x.parameters)) c.table_of.ensures)

shared : (c : goal.After-near_of) (f g : ℕ) → is_flow (length c.args.flows.now) f ≡ true → has (row c.near_of.result f) g ≡ (is_flow (length c.args.flows.now) g && share (chip_of (length c.args.flows.now) c.table_of.result) g f)
shared c f g asked =
    let n : ℕ = length c.args.flows.now in
    let listed : List Route = take n c.routes_of-routes.result in
    let sized : length listed ≡ n = length-take-le n c.routes_of-routes.result (omega (arith, c.requires)) in
    let told : row c.near_of.result f ≡ sharers (routed listed) f n =
    subst (λ k. is_flow k f ≡ true → row c.near_of.result f ≡ sharers (routed listed) f k) sized (c.near_of.ensures f) asked in
    ap (λ set. has set g) told
    ∙ has_sharers (routed listed) f n g c.requires.1
    ∙ ap (λ fs. is_flow n g && share fs g f) (route_flows c)

pub invariant_of-result : goal.invariant_of-result
invariant_of-result c = record { sized = (c.requires.0, c.requires.1, omega arith, omega arith); shared = shared c }

pub returns : goal.returns
unfolding chip
returns c = ap (map (λ (x : Flow). x.parameters)) c.table_of.ensures
