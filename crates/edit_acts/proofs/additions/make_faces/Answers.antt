use Rattle.std.proofs.Common.{ap, ◌∙◌}
use Rattle.mesh_base.specs.Changes.{corners_of, with_face}
use Rattle.mesh_base.proofs.MarksHold.{begins_along}
use Rattle.edit_acts.proofs.Made.{one_is_made}
use Rattle.edit_acts.proofs.additions.make_faces.Goals as goal

pub loop-c-preserved : goal.loop-c-preserved
loop-c-preserved g c =
    let mesh = g.S.Surface.mesh in
    let kept = g.S.Surface.kept in
    let made = c.in_ok-make_face.ensures.made ∙ ap (λ k. with_face (mesh c.loop-c.mesh) (corners_of k)) c.c-item.is in (
      one_is_made (mesh c.args.mesh.now) (mesh c.loop-c.mesh) c.args.faces.now c.loop-c.c-index c.c-item.result c.loop-c.invariant.0 c.loop-c-test.true (mesh c.make_face.new.mesh) made,
      begins_along (kept c.make_face.new.mesh) (kept c.loop-c.mesh) (kept c.args.mesh.now) c.make_face.ensures.marks c.loop-c.invariant.1,
    )
