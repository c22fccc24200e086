use Rattle.step_lists.proofs.OfMesh.{listed_among}
use Rattle.step_lists.proofs.kept.KeptList.of.Goals as goal

pub invariant_of-result : goal.invariant_of-result
invariant_of-result g c =
    let m = g.S.Surface.mesh c.args.mesh.now in
    record { made = listed_among m c.in_ok-list.list c.in_ok-vertices.vertices c.in_ok-faces.faces c.in_ok-vertices.ensures c.in_ok-faces.ensures c.in_ok-list.ensures.list }
