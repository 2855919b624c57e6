-- Why `Traffic::jitter` meets its contract. Assumes nothing.
use Rattle.std.proofs.Common.{◌≡◌, ℕ, ◌-◌, true, cond, List, [], length, get_or, sym, ap, ◌∙◌, arith}
use Rattle.std.proofs.lemmas.List.{get_or-map, length-map}
use Rattle.chip.specs.declared.parameters.FlowParameters.{FlowParameters}
use Rattle.rule.specs.Lists.{is_flow, within}
use Rattle.latency.specs.declared.settled.Settled.{Settled}
use Rattle.latency.specs.declared.settled.Settlement.{Settlement}
use Rattle.latency.specs.Settlements.{overs_in, bounds_in}
use Rattle.latency.specs.declared.traffic.Traffic.{Traffic}
use Rattle.rule.specs.FlowSets.{marks_of, members}
use Rattle.latency.specs.Chips.{chip}
use Rattle.interference.specs.Interference.{flow, disturbed}
use Rattle.interference.specs.Tables.{row, of_flow}
use Rattle.latency.specs.ChipsLemmas.{chip_range}
use Rattle.latency.proofs.traffic.Traffic.jitter.Goals as goal

pub listed : goal.listed
listed c = omega (arith, chip_range c.args.self.now c.args.j c.requires.1.0)

pub bounds-settled-j : goal.bounds-settled-j
bounds-settled-j c = omega (arith, chip_range c.args.self.now c.args.j c.requires.1.0)

-- the set above flow j, as the table and as the call has it
over_row : (t : Traffic) (s : Settled) (j : ℕ) (x : Settlement) → is_flow (length (chip t)) j ≡ true → row (overs_in s.table) j ≡ marks_of (get_or s.table (j - 1) x).over
over_row t s j x asked =
    get_or-map marks_of (overs_in s.table) (j - 1) x.over [] (simp length-map (omega (arith, chip_range t j asked, s.sized)))
    ∙ ap marks_of (get_or-map (λ y. y.over) s.table (j - 1) x x.over (omega (arith, chip_range t j asked, s.sized)))

-- and its bound
bound_row : (t : Traffic) (s : Settled) (j : ℕ) (x : Settlement) → is_flow (length (chip t)) j ≡ true → of_flow (bounds_in s.table) j ≡ (get_or s.table (j - 1) x).bound
bound_row t s j x asked = get_or-map (λ y. y.bound) s.table (j - 1) x 0 (omega (arith, chip_range t j asked, s.sized))

pub disturbed-requires : goal.disturbed-requires
disturbed-requires c =
    (c.requires.0, (c.requires.1.0, ap (within (length (chip c.args.self.now))) (sym (over_row c.args.self.now c.args.settled.now c.args.j c.index-settled-j.result c.requires.1.0)) ∙ c.requires.1.1))

pub returns-then-not-disturbed : goal.returns-then-not-disturbed
returns-then-not-disturbed c =
    let fs : List FlowParameters = chip c.args.self.now in
    let rows = over_row c.args.self.now c.args.settled.now c.args.j c.index-settled-j.result c.requires.1.0 in
    let late : ℕ = of_flow (bounds_in c.args.settled.now.table) c.args.j - (flow fs c.args.j).latency in
    record {
      value = ap (λ b. cond b late 0) (c.if-not-disturbed.ensures ∙ ap (λ s. disturbed fs c.args.f (members s) c.args.j) (sym rows));
      few = omega arith;
    }

pub returns : goal.returns
returns c =
    let fs : List FlowParameters = chip c.args.self.now in
    let rows = over_row c.args.self.now c.args.settled.now c.args.j c.index-settled-j.result c.requires.1.0 in
    let late : ℕ = of_flow (bounds_in c.args.settled.now.table) c.args.j - (flow fs c.args.j).latency in
    record {
      value =
          c.saturating_sub.ensures
          ∙ ap (λ n. n - c.parameters.result.latency) (sym (bound_row c.args.self.now c.args.settled.now c.args.j c.index-settled-j.result c.requires.1.0))
          ∙ ap (λ p. of_flow (bounds_in c.args.settled.now.table) c.args.j - p.latency) (c.parameters.ensures ∙ c.flow.ensures)
          ∙ ap (λ b. cond b late 0) (c.if-not-disturbed.ensures ∙ ap (λ s. disturbed fs c.args.f (members s) c.args.j) (sym rows));
      few = omega (arith, c.saturating_sub.ensures, (get_or c.args.settled.now.table (c.args.j - 1) c.index-settled-j.result).few);
    }
