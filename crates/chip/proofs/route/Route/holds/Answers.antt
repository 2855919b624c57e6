use Rattle.std.proofs.Common.{◌≡◌, true, false, get_or, sym, ap, ◌∙◌, ⊎_elim, arith}
use Rattle.std.proofs.lemmas.Bool.{cases_Bool, le-ltb}
use Rattle.chip.specs.Routes.{among, links}
use Rattle.chip.proofs.Marks.{flow_mark, flow_fits}
use Rattle.chip.proofs.route.Route.holds.Goals as goal

pub returns-then-link-lt-LINKS : goal.returns-then-link-lt-LINKS
returns-then-link-lt-LINKS c =
    let route = c.args.self.now in
    ap (λ table. get_or table c.args.link false) route.marked ∙ flow_mark route.flow c.args.link

pub returns-else-link-lt-LINKS : goal.returns-else-link-lt-LINKS
returns-else-link-lt-LINKS c =
    let route = c.args.self.now in
    le-ltb _ 216 (omega arith)
    ∙ sym (⊎_elim (λ (t : among c.args.link (links route.flow.parameters) ≡ true). absurd (omega (arith, flow_fits route.flow _ t))) (λ t. t) (cases_Bool (among c.args.link (links route.flow.parameters))))
