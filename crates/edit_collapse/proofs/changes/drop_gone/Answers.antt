use Rattle.std.proofs.Common.{not, sym, ap, ◌∙◌}
use Rattle.std.specs.List.{filter}
use Rattle.mesh_base.specs.Changes.{without_face}
use Rattle.mesh_base.proofs.MarksHold.{begins_along}
use Rattle.edit_base.specs.Edges.{without_faces}
use Rattle.edit_collapse.specs.Tried.{has_id_in}
use Rattle.edit_collapse.proofs.Lists.{ended, next_unless}
use Rattle.edit_collapse.proofs.changes.drop_gone.Goals as goal

pub returns-in_err-drop_unless_left-clause-marks : goal.returns-in_err-drop_unless_left-clause-marks
returns-in_err-drop_unless_left-clause-marks g c =
    let kept = g.S.Surface.kept in
    begins_along (kept c.drop_unless_left.new.mesh) (kept c.loop-f.mesh) (kept c.args.mesh.now) c.drop_unless_left.ensures.marks c.loop-f.invariant.1

pub loop-f-preserved : goal.loop-f-preserved
loop-f-preserved g c =
    let mesh = g.S.Surface.mesh in
    let kept = g.S.Surface.kept in (
      next_unless without_face (has_id_in c.args.left.now) c.deref-f-items.result.now c.loop-f.f-index c.f-item.result (mesh c.loop-f.mesh) (mesh c.drop_unless_left.new.mesh) c.loop-f-test.true c.f-item.is c.in_ok-drop_unless_left.ensures.made
          ∙ c.loop-f.invariant.0,
      begins_along (kept c.drop_unless_left.new.mesh) (kept c.loop-f.mesh) (kept c.args.mesh.now) c.drop_unless_left.ensures.marks c.loop-f.invariant.1,
    )

pub returns-clause-made : goal.returns-clause-made
returns-clause-made g c =
    let mesh = g.S.Surface.mesh in
    let left = c.args.left.now in
    sym (ap (λ l. without_faces (mesh c.loop-f.mesh) (filter (λ f. not (has_id_in left f)) l)) (ended c.deref-f-items.result.now c.loop-f.f-index c.loop-f-test.false))
    ∙ c.loop-f.invariant.0
    ∙ ap (λ l. without_faces (mesh c.args.mesh.now) (filter (λ f. not (has_id_in left f)) l)) (c.deref-f-items.ensures.value ∙ c.in_ok-faces_at.ensures.ok)

pub returns-clause-marks : goal.returns-clause-marks
returns-clause-marks g c = c.loop-f.invariant.1
