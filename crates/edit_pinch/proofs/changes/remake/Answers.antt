use Rattle.std.proofs.Common.{◌≡◌, sym, ap, subst, ◌∙◌}
use Rattle.std.specs.Prelude.{OnOk}
use Rattle.mesh_base.specs.Mesh.{Mesh}
use Rattle.mesh_base.specs.Changes.{corners_of, with_face, without_face, IsFresh, IsFullOfFaces}
use Rattle.mesh_base.proofs.MarksHold.{begins_along}
use Rattle.edit_base.specs.Edges.{renamed}
use Rattle.edit_pinch.proofs.changes.remake.Goals as goal

pub make_face-requires-clause-fresh : goal.make_face-requires-clause-fresh
make_face-requires-clause-fresh g c =
    let m = g.S.Surface.mesh c.args.mesh.now in
    let corners = ap corners_of c.list.ensures ∙ c.renamed-c.ensures ∙ ap (renamed c.args.v c.args.w) c.corners_at.ensures in
    subst (λ (n : Mesh). IsFresh n (corners_of c.list.result)) (sym c.in_ok-drop_face.ensures.ok) (subst (IsFresh (without_face m c.args.f)) (sym corners) c.requires.fresh)

pub make_face-requires-clause-room : goal.make_face-requires-clause-room
make_face-requires-clause-room g c = subst (λ (n : Mesh). ¬ IsFullOfFaces n) (sym c.in_ok-drop_face.ensures.ok) c.requires.room

pub returns-clause-made : goal.returns-clause-made
returns-clause-made g c =
    let corners = ap corners_of c.list.ensures ∙ c.renamed-c.ensures ∙ ap (renamed c.args.v c.args.w) c.corners_at.ensures in
    subst (λ (n : Mesh). OnOk c.make_face.result (g.S.Surface.mesh c.make_face.new.mesh ≡ n)) (λ i. with_face (c.in_ok-drop_face.ensures.ok i) (corners i)) c.make_face.ensures.made

pub returns-clause-marks : goal.returns-clause-marks
returns-clause-marks g c =
    let kept = g.S.Surface.kept in
    begins_along (kept c.make_face.new.mesh) (kept c.drop_face.new.self) (kept c.args.mesh.now) c.make_face.ensures.marks c.drop_face.ensures.marks
