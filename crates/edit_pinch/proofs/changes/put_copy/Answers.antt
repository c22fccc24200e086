use Rattle.std.proofs.Common.{◌≤◌, length, arith}
use Rattle.mesh_base.proofs.MarksHold.{begins_along}
use Rattle.edit_pinch.proofs.TurnSteps.{faces_begun, face_may_be, face_remade, faces_remade}
use Rattle.edit_pinch.proofs.changes.put_copy.Goals as goal

pub make_vertex-requires : goal.make_vertex-requires
make_vertex-requires g c = c.requires.room

pub loop-f-init : goal.loop-f-init
loop-f-init g c =
    let mesh = g.S.Surface.mesh in (
      faces_begun c.args.v (mesh c.args.mesh.now) c.args.at c.args.fan.now c.in_ok-w.w (mesh c.make_vertex.new.mesh) c.requires c.in_ok-w.ensures.id c.in_ok-w.ensures.made,
      c.in_ok-w.ensures.marks,
    )

pub returns-in_err-w-clause-marks : goal.returns-in_err-w-clause-marks
returns-in_err-w-clause-marks g c = c.make_vertex.ensures.marks

pub returns-in_err-remake-clause-marks : goal.returns-in_err-remake-clause-marks
returns-in_err-remake-clause-marks g c =
    let kept = g.S.Surface.kept in
    begins_along (kept c.remake.new.mesh) (kept c.loop-f.mesh) (kept c.args.mesh.now) c.remake.ensures.marks c.loop-f.invariant.1

pub remake-requires : goal.remake-requires
remake-requires g c =
    let mesh = g.S.Surface.mesh in
    face_may_be c.args.v (mesh c.args.mesh.now) c.args.at c.args.fan.now c.in_ok-w.w (mesh c.loop-f.mesh) c.loop-f.f-index c.f-item.result c.loop-f.invariant.0 c.loop-f-test.true c.f-item.is

pub loop-f-preserved : goal.loop-f-preserved
loop-f-preserved g c =
    let mesh = g.S.Surface.mesh in
    let kept = g.S.Surface.kept in (
      face_remade c.args.v (mesh c.args.mesh.now) c.args.at c.args.fan.now c.in_ok-w.w (mesh c.loop-f.mesh) c.loop-f.f-index c.f-item.result c.loop-f.invariant.0 c.loop-f-test.true c.f-item.is
          (mesh c.remake.new.mesh) c.in_ok-remake.ensures.made,
      begins_along (kept c.remake.new.mesh) (kept c.loop-f.mesh) (kept c.args.mesh.now) c.remake.ensures.marks c.loop-f.invariant.1,
    )

pub returns-clause-made : goal.returns-clause-made
returns-clause-made g c =
    let mesh = g.S.Surface.mesh in
    let end : length c.args.fan.now ≤ c.loop-f.f-index = omega arith in
    faces_remade c.args.v (mesh c.args.mesh.now) c.args.at c.args.fan.now c.in_ok-w.w (mesh c.loop-f.mesh) c.loop-f.f-index 0 c.loop-f.invariant.0 end

pub returns-clause-marks : goal.returns-clause-marks
returns-clause-marks g c = c.loop-f.invariant.1
