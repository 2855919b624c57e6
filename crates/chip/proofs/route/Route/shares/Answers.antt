use Rattle.std.proofs.Common.{◌≡◌, ℕ, false, get_or, ap, ◌∙◌}
use Rattle.chip.specs.Routes.{among, links}
use Rattle.chip.specs.declared.route.Route.{Route}
use Rattle.chip.proofs.Marks.{flow_mark}
use Rattle.chip.proofs.Meeting.{tables_meet, sharing}
use Rattle.chip.proofs.route.Route.shares.Goals as goal

-- the mark of a link says whether it is in the route
mark : (route : Route) (k : ℕ) → get_or route.marks k false ≡ among k (links route.flow.parameters)
mark route k = ap (λ table. get_or table k false) route.marked ∙ flow_mark route.flow k

pub returns : goal.returns
returns c =
    let p = c.args.self.now in
    let q = c.args.other.now in
    record {
      value = c.marked_in_both.ensures ∙ tables_meet p.flow.parameters q.flow.parameters p.marks q.marks (mark p) (mark q);
      laws = sharing;
    }
