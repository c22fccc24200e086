use Rattle.std.proofs.Common.{[], ◌∷◌, sym, ap, subst, ◌∙◌}
use Rattle.mesh_base.specs.Mesh.{IsLiveFace}
use Rattle.mesh_base.specs.Changes.{without_face}
use Rattle.edit_base.specs.Edges.{Edge, corners_from, AreFresh}
use Rattle.edit_base.specs.Required.{HasRoomFor}
use Rattle.edit_flip.specs.Tried.{MayBeTried}
use Rattle.edit_flip.proofs.PutFlip.{first_is_live, second_is_live, both_fresh, room_for_both}
use Rattle.mesh_base.proofs.MarksHold.{begins_along}
use Rattle.edit_flip.proofs.operation.apply_flip.Goals as goal

pub drop_face-requires : goal.drop_face-requires
drop_face-requires g c =
    let m = g.S.Surface.mesh c.args.mesh.now in
    let s : Edge = record { a = c.e.inside.a; b = c.e.inside.b; c = c.e.inside.c; d = c.e.inside.d; left_face = c.e.inside.left_face; right_face = c.e.inside.right_face } in
    let tried : MayBeTried m s = subst (MayBeTried m) (sym c.e.view_is) c.requires.tried in
    first_is_live m s (g.met.S.Surface.sound c.args.mesh.now) c.requires.closed tried

pub drop_face-requires-2 : goal.drop_face-requires-2
drop_face-requires-2 g c =
    let m = g.S.Surface.mesh c.args.mesh.now in
    let s : Edge = record { a = c.e.inside.a; b = c.e.inside.b; c = c.e.inside.c; d = c.e.inside.d; left_face = c.e.inside.left_face; right_face = c.e.inside.right_face } in
    let tried : MayBeTried m s = subst (MayBeTried m) (sym c.e.view_is) c.requires.tried in
    subst (λ n. IsLiveFace n s.right_face) (sym c.in_ok-drop_face.ensures.ok) (second_is_live m s (g.met.S.Surface.sound c.args.mesh.now) c.requires.closed tried)

pub make_faces-requires-clause-fresh : goal.make_faces-requires-clause-fresh
make_faces-requires-clause-fresh g c =
    let m = g.S.Surface.mesh c.args.mesh.now in
    let s : Edge = record { a = c.e.inside.a; b = c.e.inside.b; c = c.e.inside.c; d = c.e.inside.d; left_face = c.e.inside.left_face; right_face = c.e.inside.right_face } in
    let tried : MayBeTried m s = subst (MayBeTried m) (sym c.e.view_is) c.requires.tried in
    let bare = c.in_ok-drop_face-2.ensures.ok ∙ ap (λ n. without_face n s.right_face) c.in_ok-drop_face.ensures.ok in
    subst (λ n. AreFresh n (corners_from s.a s.d s.c ∷ corners_from s.b s.c s.d ∷ [])) (sym bare) (both_fresh m s (g.met.S.Surface.sound c.args.mesh.now) c.requires.closed tried)

pub make_faces-requires-clause-room : goal.make_faces-requires-clause-room
make_faces-requires-clause-room g c =
    let m = g.S.Surface.mesh c.args.mesh.now in
    let s : Edge = record { a = c.e.inside.a; b = c.e.inside.b; c = c.e.inside.c; d = c.e.inside.d; left_face = c.e.inside.left_face; right_face = c.e.inside.right_face } in
    let tried : MayBeTried m s = subst (MayBeTried m) (sym c.e.view_is) c.requires.tried in
    let bare = c.in_ok-drop_face-2.ensures.ok ∙ ap (λ n. without_face n s.right_face) c.in_ok-drop_face.ensures.ok in
    subst (HasRoomFor 2) (sym bare) (room_for_both m s (g.met.S.Surface.sound c.args.mesh.now) c.requires.closed tried)

pub returns-in_err-drop_face-2-clause-marks : goal.returns-in_err-drop_face-2-clause-marks
returns-in_err-drop_face-2-clause-marks g c =
    let kept = g.S.Surface.kept in
    begins_along (kept c.drop_face-2.new.self) (kept c.drop_face.new.self) (kept c.args.mesh.now) c.drop_face-2.ensures.marks c.drop_face.ensures.marks

pub returns-clause-marks : goal.returns-clause-marks
returns-clause-marks g c =
    let kept = g.S.Surface.kept in
    let bare = begins_along (kept c.drop_face-2.new.self) (kept c.drop_face.new.self) (kept c.args.mesh.now) c.drop_face-2.ensures.marks c.drop_face.ensures.marks in
    begins_along (kept c.make_faces.new.mesh) (kept c.drop_face-2.new.self) (kept c.args.mesh.now) c.make_faces.ensures.marks bare
