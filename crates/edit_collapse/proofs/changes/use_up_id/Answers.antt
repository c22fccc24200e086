use Rattle.std.proofs.Common.{◌≡◌, subst}
use Rattle.std.specs.Prelude.{OnOk}
use Rattle.mesh_base.specs.Mesh.{Mesh}
use Rattle.mesh_base.specs.Changes.{corners_of, without_face}
use Rattle.mesh_base.proofs.MarksHold.{begins_along}
use Rattle.edit_collapse.proofs.Spent.{spent_live, used_up}
use Rattle.edit_collapse.proofs.changes.use_up_id.Goals as goal

pub drop_face-requires : goal.drop_face-requires
drop_face-requires g c =
    let m = g.S.Surface.mesh c.args.mesh.now in
    spent_live (without_face m c.args.f) (corners_of c.args.list) (g.S.Surface.mesh c.make_again.new.mesh) c.next_face.result c.in_ok-make_again.ensures.made c.next_face.ensures

pub returns-clause-made : goal.returns-clause-made
returns-clause-made g c =
    let mesh = g.S.Surface.mesh in
    subst (λ (n : Mesh). OnOk c.drop_face.result (mesh c.drop_face.new.self ≡ n))
    (used_up (mesh c.args.mesh.now) c.args.f (corners_of c.args.list) c.next_face.result (mesh c.make_again.new.mesh) (g.met.S.Surface.sound c.args.mesh.now) c.in_ok-make_again.ensures.made c.next_face.ensures)
    c.drop_face.ensures.ok

pub returns-clause-marks : goal.returns-clause-marks
returns-clause-marks g c =
    let kept = g.S.Surface.kept in
    begins_along (kept c.drop_face.new.self) (kept c.make_again.new.mesh) (kept c.args.mesh.now) c.drop_face.ensures.marks c.make_again.ensures.marks

pub returns-in_err-make_again-clause-marks : goal.returns-in_err-make_again-clause-marks
returns-in_err-make_again-clause-marks g c = c.make_again.ensures.marks
