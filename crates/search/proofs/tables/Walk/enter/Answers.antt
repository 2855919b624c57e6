-- Why `Walk::enter` meets its contract. Assumes nothing.
use Rattle.std.proofs.Common.{◌≡◌, ℕ, is_some, Option, rules, refl, sym, ap, ◌∙◌, subst}
use Rattle.rule.specs.FlowSets.{marks_of}
use Rattle.rule.specs.Questions.{asked_floor}
use Rattle.search.specs.declared.candidates.Candidates.{Candidates}
use Rattle.search.specs.Tables.{Row, Settled, free_of}
use Rattle.search.proofs.Opened.{opened_below, opened_rows, opened_row, opened_untried, entered_row, entered_by_floor, entered_by_ceiling, entered_sure}
use Rattle.search.proofs.tables.Walk.enter.Goals as goal
use Rattle.search.proofs.tables.Walk.enter.Goals.{in-Some, in_default}

pub returns : goal.returns
returns g c =
    let m = g.R.Rule.meaning c.args.rule.now in
    let laws = g.met.R.Rule.lawful c.args.rule.now in
    let w = c.args.self.now in
    let set = c.free_flows-free.result in
    let is = c.free_flows-free.ensures in
    let floors = c.gathered-candidates.result in
    let t = c.gathered-candidates.ensures (asked_floor m) (λ f small others reply p. search rules) in
    let told = c.settled-by_ceiling.ensures in
    let new = c.match-by_ceiling.candidates in
    let slack : new.slack ≡ floors.slack = elim c.match-by_ceiling.branch [
      | in-Some b ↦ ap (λ (x : Candidates). x.slack) b.candidates-is
      | in_default b ↦ ap (λ (x : Candidates). x.slack) b.candidates-is
    ] in
    let by : c.match-by_ceiling.by_ceiling ≡ c.settled-by_ceiling.result = elim c.match-by_ceiling.branch [
      | in-Some b ↦ b.by_ceiling-is ∙ sym b.in-Some.is
      | in_default b ↦ b.by_ceiling-is
    ] in
    record {
      flows = refl;
      level = refl;
      placed = refl;
      count = refl;
      stage = refl;
      below = opened_below w new;
      rows = opened_rows w new;
      row = λ e. subst (Row m (free_of w)) (sym (opened_row w new ∙ slack)) (entered_row m laws w e set is floors t);
      untried = λ e. opened_untried w new ∙ elim c.match-by_ceiling.branch [
        | in-Some b ↦ ap (λ (x : Candidates). marks_of x.set) b.candidates-is ∙ entered_by_ceiling m laws w e set is w.sure b.in-Some.f b.none.result b.with-candidates.result (subst (Settled m w.sure (marks_of set)) b.in-Some.is told) b.none.ensures b.with-candidates.ensures
        | in_default b ↦ ap (λ (x : Candidates). marks_of x.set) b.candidates-is ∙ entered_by_floor m laws w e set is floors t w.sure (subst (Settled m w.sure (marks_of set)) b.in_default.is told)
      ];
      sure = λ e. c.is_some-self.ensures ∙ ap (λ (r : Option ℕ). is_some r) by ∙ entered_sure m laws w e set is w.sure c.settled-by_ceiling.result told;
    }
