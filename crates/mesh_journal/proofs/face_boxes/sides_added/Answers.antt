use Rattle.std.proofs.Common.{◌∙◌, Some, sym, ap, arith}
use Rattle.mesh_base.proofs.WalkSteps.{above-step}
use Rattle.mesh_journal.proofs.face_boxes.sides_added.Goals as goal

pub loop-f-smaller : goal.loop-f-smaller
loop-f-smaller g c =
    let faces = (g.B.Surface.mesh c.args.mesh.now).faces in
    let rest = above-step faces c.loop-f.last c.f.inside.0 (sym c.in-Some.ensures ∙ ap Some (sym c.f.view_is)) in
    rw rest (omega arith)
