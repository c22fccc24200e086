use Rattle.std.proofs.Common.{◌≡◌, sym, subst}
use Rattle.std.specs.Prelude.{OnOk}
use Rattle.mesh_base.specs.Mesh.{Mesh}
use Rattle.mesh_base.specs.Changes.{corners_of, with_face, IsFresh, IsFullOfFaces}
use Rattle.mesh_base.proofs.MarksHold.{begins_along}
use Rattle.edit_collapse.proofs.changes.make_again.Goals as goal

pub make_face-requires-clause-fresh : goal.make_face-requires-clause-fresh
make_face-requires-clause-fresh g c = subst (λ (n : Mesh). IsFresh n (corners_of c.args.list)) (sym c.in_ok-drop_face.ensures.ok) c.requires.fresh

pub make_face-requires-clause-room : goal.make_face-requires-clause-room
make_face-requires-clause-room g c = subst (λ (n : Mesh). ¬ IsFullOfFaces n) (sym c.in_ok-drop_face.ensures.ok) c.requires.room

pub returns-clause-made : goal.returns-clause-made
returns-clause-made g c = subst (λ (n : Mesh). OnOk c.make_face.result (g.S.Surface.mesh c.make_face.new.mesh ≡ with_face n (corners_of c.args.list))) c.in_ok-drop_face.ensures.ok c.make_face.ensures.made

pub returns-clause-marks : goal.returns-clause-marks
returns-clause-marks g c =
    let kept = g.S.Surface.kept in
    begins_along (kept c.make_face.new.mesh) (kept c.drop_face.new.self) (kept c.args.mesh.now) c.make_face.ensures.marks c.drop_face.ensures.marks

pub returns-in_err-drop_face-clause-marks : goal.returns-in_err-drop_face-clause-marks
returns-in_err-drop_face-clause-marks g c = c.drop_face.ensures.marks
