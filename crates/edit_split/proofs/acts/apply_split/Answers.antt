use Rattle.std.specs.Prelude.{OnOk}
use Rattle.std.proofs.Common.{◌≡◌, ℕ, List, [], ◌∷◌, false, sym, ap, subst, ◌∙◌}
use Rattle.mesh_base.specs.declared.ids.Corners.{Corners}
use Rattle.mesh_base.specs.Mesh.{Mesh, IsLiveFace}
use Rattle.mesh_base.specs.Changes.{without_face, with_vertex, IsFullOfVertices}
use Rattle.mesh_base.specs.Limits.{is_over_limits}
use Rattle.mesh_base.proofs.MarksHold.{begins_along}
use Rattle.edit_base.specs.Edges.{Edge, corners_from, without_faces, with_faces, AreFresh}
use Rattle.edit_split.specs.Split.{split_mesh}
use Rattle.edit_base.specs.Required.{HasEdge, HasRoomFor}
use Rattle.edit_split.proofs.PutSplit.{left_is_live, right_is_live, vertex_has_room, faces_are_fresh, faces_have_room}
use Rattle.edit_split.proofs.acts.apply_split.Goals as goal

pub drop_face-requires : goal.drop_face-requires
drop_face-requires g c =
    let m = g.S.Surface.mesh c.args.mesh.now in
    let s : Edge = record { a = c.e.inside.a; b = c.e.inside.b; c = c.e.inside.c; d = c.e.inside.d; left_face = c.e.inside.left_face; right_face = c.e.inside.right_face } in
    let edge : HasEdge m s = subst (HasEdge m) (sym c.e.view_is) c.requires.edge in
    let fits : is_over_limits (split_mesh m s c.args.at) ≡ false = subst (λ (e : Edge). is_over_limits (split_mesh m e c.args.at) ≡ false) (sym c.e.view_is) c.requires.fits in
    left_is_live m s c.args.at (g.met.S.Surface.sound c.args.mesh.now) c.requires.closed edge fits

pub drop_face-requires-2 : goal.drop_face-requires-2
drop_face-requires-2 g c =
    let m = g.S.Surface.mesh c.args.mesh.now in
    let s : Edge = record { a = c.e.inside.a; b = c.e.inside.b; c = c.e.inside.c; d = c.e.inside.d; left_face = c.e.inside.left_face; right_face = c.e.inside.right_face } in
    let edge : HasEdge m s = subst (HasEdge m) (sym c.e.view_is) c.requires.edge in
    let fits : is_over_limits (split_mesh m s c.args.at) ≡ false = subst (λ (e : Edge). is_over_limits (split_mesh m e c.args.at) ≡ false) (sym c.e.view_is) c.requires.fits in
    subst (λ n. IsLiveFace n s.right_face) (sym c.in_ok-drop_face.ensures.ok) (right_is_live m s c.args.at (g.met.S.Surface.sound c.args.mesh.now) c.requires.closed edge fits)

pub make_vertex-requires : goal.make_vertex-requires
make_vertex-requires g c =
    let m = g.S.Surface.mesh c.args.mesh.now in
    let s : Edge = record { a = c.e.inside.a; b = c.e.inside.b; c = c.e.inside.c; d = c.e.inside.d; left_face = c.e.inside.left_face; right_face = c.e.inside.right_face } in
    let edge : HasEdge m s = subst (HasEdge m) (sym c.e.view_is) c.requires.edge in
    let fits : is_over_limits (split_mesh m s c.args.at) ≡ false = subst (λ (e : Edge). is_over_limits (split_mesh m e c.args.at) ≡ false) (sym c.e.view_is) c.requires.fits in
    let bare = c.in_ok-drop_face-2.ensures.ok ∙ ap (λ n. without_face n s.right_face) c.in_ok-drop_face.ensures.ok in
    subst (λ n. ¬ IsFullOfVertices n) (sym bare) (vertex_has_room m s c.args.at (g.met.S.Surface.sound c.args.mesh.now) c.requires.closed edge fits)

pub make_faces-requires-clause-fresh : goal.make_faces-requires-clause-fresh
make_faces-requires-clause-fresh g c =
    let m = g.S.Surface.mesh c.args.mesh.now in
    let s : Edge = record { a = c.e.inside.a; b = c.e.inside.b; c = c.e.inside.c; d = c.e.inside.d; left_face = c.e.inside.left_face; right_face = c.e.inside.right_face } in
    let edge : HasEdge m s = subst (HasEdge m) (sym c.e.view_is) c.requires.edge in
    let fits : is_over_limits (split_mesh m s c.args.at) ≡ false = subst (λ (e : Edge). is_over_limits (split_mesh m e c.args.at) ≡ false) (sym c.e.view_is) c.requires.fits in
    let bare = c.in_ok-drop_face-2.ensures.ok ∙ ap (λ n. without_face n s.right_face) c.in_ok-drop_face.ensures.ok in
    let base = c.in_ok-w.ensures.made ∙ ap (λ n. with_vertex n c.args.at) bare in
    let new : c.in_ok-w.w ≡ m.next_vertex = c.in_ok-w.ensures.id ∙ ap (λ (n : Mesh). n.next_vertex) bare in
    let four : ℕ → List Corners = λ w. corners_from s.a w s.c ∷ corners_from w s.b s.c ∷ corners_from s.b w s.d ∷ corners_from w s.a s.d ∷ [] in
    let fresh = faces_are_fresh m s c.args.at (g.met.S.Surface.sound c.args.mesh.now) c.requires.closed edge fits in
    subst (λ n. AreFresh n (four c.in_ok-w.w)) (sym base)
    (subst (λ w. AreFresh (with_vertex (without_faces m (s.left_face ∷ s.right_face ∷ [])) c.args.at) (four w)) (sym new) fresh)

pub make_faces-requires-clause-room : goal.make_faces-requires-clause-room
make_faces-requires-clause-room g c =
    let m = g.S.Surface.mesh c.args.mesh.now in
    let s : Edge = record { a = c.e.inside.a; b = c.e.inside.b; c = c.e.inside.c; d = c.e.inside.d; left_face = c.e.inside.left_face; right_face = c.e.inside.right_face } in
    let edge : HasEdge m s = subst (HasEdge m) (sym c.e.view_is) c.requires.edge in
    let fits : is_over_limits (split_mesh m s c.args.at) ≡ false = subst (λ (e : Edge). is_over_limits (split_mesh m e c.args.at) ≡ false) (sym c.e.view_is) c.requires.fits in
    let bare = c.in_ok-drop_face-2.ensures.ok ∙ ap (λ n. without_face n s.right_face) c.in_ok-drop_face.ensures.ok in
    let base = c.in_ok-w.ensures.made ∙ ap (λ n. with_vertex n c.args.at) bare in
    subst (HasRoomFor 4) (sym base) (faces_have_room m s c.args.at (g.met.S.Surface.sound c.args.mesh.now) c.requires.closed edge fits)

pub returns-clause-made : goal.returns-clause-made
returns-clause-made g c =
    let m = g.S.Surface.mesh c.args.mesh.now in
    let s : Edge = record { a = c.e.inside.a; b = c.e.inside.b; c = c.e.inside.c; d = c.e.inside.d; left_face = c.e.inside.left_face; right_face = c.e.inside.right_face } in
    let bare = c.in_ok-drop_face-2.ensures.ok ∙ ap (λ n. without_face n s.right_face) c.in_ok-drop_face.ensures.ok in
    let base = c.in_ok-w.ensures.made ∙ ap (λ n. with_vertex n c.args.at) bare in
    let new : c.in_ok-w.w ≡ m.next_vertex = c.in_ok-w.ensures.id ∙ ap (λ (n : Mesh). n.next_vertex) bare in
    let four : ℕ → List Corners = λ w. corners_from s.a w s.c ∷ corners_from w s.b s.c ∷ corners_from s.b w s.d ∷ corners_from w s.a s.d ∷ [] in
    let put = (λ i. with_faces (base i) (four (new i))) ∙ ap (λ (e : Edge). split_mesh m e c.args.at) c.e.view_is in
    subst (λ n. OnOk c.make_faces.result (g.S.Surface.mesh c.make_faces.new.mesh ≡ n)) put c.make_faces.ensures.made

pub returns-in_err-drop_face-2-clause-marks : goal.returns-in_err-drop_face-2-clause-marks
returns-in_err-drop_face-2-clause-marks g c =
    let kept = g.S.Surface.kept in
    begins_along (kept c.drop_face-2.new.self) (kept c.drop_face.new.self) (kept c.args.mesh.now) c.drop_face-2.ensures.marks c.drop_face.ensures.marks

pub returns-in_err-w-clause-marks : goal.returns-in_err-w-clause-marks
returns-in_err-w-clause-marks g c =
    let kept = g.S.Surface.kept in
    let bare = begins_along (kept c.drop_face-2.new.self) (kept c.drop_face.new.self) (kept c.args.mesh.now) c.drop_face-2.ensures.marks c.drop_face.ensures.marks in
    begins_along (kept c.make_vertex.new.mesh) (kept c.drop_face-2.new.self) (kept c.args.mesh.now) c.make_vertex.ensures.marks bare

pub returns-clause-marks : goal.returns-clause-marks
returns-clause-marks g c =
    let kept = g.S.Surface.kept in
    let bare = begins_along (kept c.drop_face-2.new.self) (kept c.drop_face.new.self) (kept c.args.mesh.now) c.drop_face-2.ensures.marks c.drop_face.ensures.marks in
    let base = begins_along (kept c.make_vertex.new.mesh) (kept c.drop_face-2.new.self) (kept c.args.mesh.now) c.make_vertex.ensures.marks bare in
    begins_along (kept c.make_faces.new.mesh) (kept c.make_vertex.new.mesh) (kept c.args.mesh.now) c.make_faces.ensures.marks base
