-- Why `same_labels` meets its contract. Assumes nothing.
use Rattle.std.proofs.Common.{length, ◌∙◌}
use Rattle.std.proofs.lemmas.Bool.{ne_eqb}
use Rattle.search.proofs.Planned.{labels_apart, labels_beside}
use Rattle.search.proofs.plan.same_labels.Goals as goal

pub returns-then-order-theirs : goal.returns-then-order-theirs
returns-then-order-theirs g c =
    c.labels_agree.ensures ∙ labels_beside (g.R.Rule.meaning c.args.rule.now) (g.Q.Rule.meaning c.args.other.now) c.args.order.now c.args.theirs.now c.if-order-theirs.true

pub returns-else-order-theirs : goal.returns-else-order-theirs
returns-else-order-theirs g c =
    ne_eqb (length c.args.order.now) (length c.args.theirs.now) c.if-order-theirs.false
    ∙ labels_apart (g.R.Rule.meaning c.args.rule.now) (g.Q.Rule.meaning c.args.other.now) c.args.order.now c.args.theirs.now c.if-order-theirs.false
