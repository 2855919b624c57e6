use Rattle.layout.specs.Layout.{pair_bytes}
use Rattle.layout.proofs.Laying.{room_for}
use Rattle.layout.proofs.writing.pairs.Goals as goal

pub entry-requires : goal.entry-requires
entry-requires c =
    let qs = c.pairs-pair-items.result.now in
    let i = c.loop-pair.pair-index in
    room_for pair_bytes qs i (record { first = 0; later = 0 }) c.args.page.now c.loop-pair.page 626 c.loop-pair-test.true c.loop-pair.invariant (rw c.pairs-pair-items.ensures c.requires)
