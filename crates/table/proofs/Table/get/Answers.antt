use Rattle.std.proofs.Common.{ap, ◌∙◌}
use Rattle.std.specs.List.{slice_get}
use Rattle.table.proofs.Read.{read_at}
use Rattle.table.proofs.Table.get.Goals as goal

pub returns : goal.returns
returns g c =
    c.copied.ensures
    ∙ read_at c.as_slice.result.now c.args.place c.get.result c.get.ensures.lookup.0 c.get.ensures.lookup.1
    ∙ ap (λ items. slice_get items c.args.place) c.as_slice.ensures.items
