use Rattle.chip.proofs.Walks.{stays}
use Rattle.chip.proofs.mesh_router.MeshRouter.toward.Goals as goal

pub invariant_of-result : goal.invariant_of-result
invariant_of-result c =
    let here = c.args.self in
    let there = c.args.there in
    record { inside = simp (c.beyond.ensures, c.onward.ensures) (stays here.router there.router here.inside there.inside) }
