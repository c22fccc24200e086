use Rattle.std.proofs.Common.{◌≡◌, true, not, [], ◌∷◌, map, length, sym, ap, subst, ◌∙◌}
use Rattle.std.specs.Prelude.{IfOk}
use Rattle.std.specs.List.{AllByRecursion}
use Rattle.mesh_base.specs.Mesh.{IsLiveFace}
use Rattle.mesh_base.specs.Changes.{corners_of, without_face}
use Rattle.edit_base.specs.Edges.{Edge, without_faces, with_faces, doubles_a_face}
use Rattle.edit_base.specs.Required.{HasRoomFor}
use Rattle.edit_acts.specs.Making.{MayBeMade}
use Rattle.edit_zip.specs.Zip.{zip_mesh}
use Rattle.edit_zip.proofs.PutTurn.{tried_first, tried_second, tried_third, tried_fourth, tried_room, tried_made}
use Rattle.mesh_base.proofs.MarksHold.{begins_along}
use Rattle.edit_zip.proofs.attempts.put_turn.Goals as goal

pub drop_face-requires : goal.drop_face-requires
drop_face-requires g c =
    let m = g.S.Surface.mesh c.args.mesh.now in
    subst (λ (e : Edge). IsLiveFace m e.left_face) (sym c.s.view_is) (tried_first m c.args.s.now c.args.t.now (g.met.S.Surface.sound c.args.mesh.now) c.requires.closed c.requires.tried)

pub drop_face-requires-2 : goal.drop_face-requires-2
drop_face-requires-2 g c =
    let m = g.S.Surface.mesh c.args.mesh.now in
    subst (λ n. IsLiveFace n c.s.inside.right_face) (sym c.in_ok-drop_face.ensures.ok)
    (subst (λ (e : Edge). IsLiveFace (without_face m e.left_face) e.right_face) (sym c.s.view_is) (tried_second m c.args.s.now c.args.t.now (g.met.S.Surface.sound c.args.mesh.now) c.requires.closed c.requires.tried))

pub drop_face-requires-3 : goal.drop_face-requires-3
drop_face-requires-3 g c =
    let m = g.S.Surface.mesh c.args.mesh.now in
    let gone = c.in_ok-drop_face-2.ensures.ok ∙ ap (λ n. without_face n c.s.inside.right_face) c.in_ok-drop_face.ensures.ok in
    subst (λ n. IsLiveFace n c.t.inside.left_face) (sym gone)
    (subst (λ (e : Edge). IsLiveFace (without_face (without_face m e.left_face) e.right_face) c.t.inside.left_face) (sym c.s.view_is)
    (subst (λ (e : Edge). IsLiveFace (without_face (without_face m c.args.s.now.left_face) c.args.s.now.right_face) e.left_face) (sym c.t.view_is) (tried_third m c.args.s.now c.args.t.now (g.met.S.Surface.sound c.args.mesh.now) c.requires.closed c.requires.tried)))

pub drop_face-requires-4 : goal.drop_face-requires-4
drop_face-requires-4 g c =
    let m = g.S.Surface.mesh c.args.mesh.now in
    let gone = c.in_ok-drop_face-2.ensures.ok ∙ ap (λ n. without_face n c.s.inside.right_face) c.in_ok-drop_face.ensures.ok in
    let gone3 = c.in_ok-drop_face-3.ensures.ok ∙ ap (λ n. without_face n c.t.inside.left_face) gone in
    subst (λ n. IsLiveFace n c.t.inside.right_face) (sym gone3)
    (subst (λ (e : Edge). IsLiveFace (without_face (without_face (without_face m e.left_face) e.right_face) c.t.inside.left_face) c.t.inside.right_face) (sym c.s.view_is)
    (subst (λ (e : Edge). IsLiveFace (without_face (without_face (without_face m c.args.s.now.left_face) c.args.s.now.right_face) e.left_face) e.right_face) (sym c.t.view_is) (tried_fourth m c.args.s.now c.args.t.now (g.met.S.Surface.sound c.args.mesh.now) c.requires.closed c.requires.tried)))

pub make_unless_doubled-requires-clause-made : goal.make_unless_doubled-requires-clause-made
make_unless_doubled-requires-clause-made g c =
    let m = g.S.Surface.mesh c.args.mesh.now in
    let gone = c.in_ok-drop_face-2.ensures.ok ∙ ap (λ n. without_face n c.s.inside.right_face) c.in_ok-drop_face.ensures.ok in
    let gone3 = c.in_ok-drop_face-3.ensures.ok ∙ ap (λ n. without_face n c.t.inside.left_face) gone in
    let bare = c.in_ok-drop_face-4.ensures.ok ∙ ap (λ n. without_face n c.t.inside.right_face) gone3
    ∙ (λ i. without_faces m ((c.s.view_is i).left_face ∷ (c.s.view_is i).right_face ∷ (c.t.view_is i).left_face ∷ (c.t.view_is i).right_face ∷ [])) in
    subst (λ n. AllByRecursion (MayBeMade n) (map corners_of c.tunnel.result)) (sym bare)
    (subst (λ cs. AllByRecursion (MayBeMade (without_faces m (c.args.s.now.left_face ∷ c.args.s.now.right_face ∷ c.args.t.now.left_face ∷ c.args.t.now.right_face ∷ []))) cs) (sym c.tunnel.ensures)
    (tried_made m c.args.s.now c.args.t.now (g.met.S.Surface.sound c.args.mesh.now) c.requires.closed c.requires.tried c.args.turn c.requires.turn))

pub make_unless_doubled-requires-clause-room : goal.make_unless_doubled-requires-clause-room
make_unless_doubled-requires-clause-room g c =
    let m = g.S.Surface.mesh c.args.mesh.now in
    let gone = c.in_ok-drop_face-2.ensures.ok ∙ ap (λ n. without_face n c.s.inside.right_face) c.in_ok-drop_face.ensures.ok in
    let gone3 = c.in_ok-drop_face-3.ensures.ok ∙ ap (λ n. without_face n c.t.inside.left_face) gone in
    let bare = c.in_ok-drop_face-4.ensures.ok ∙ ap (λ n. without_face n c.t.inside.right_face) gone3
    ∙ (λ i. without_faces m ((c.s.view_is i).left_face ∷ (c.s.view_is i).right_face ∷ (c.t.view_is i).left_face ∷ (c.t.view_is i).right_face ∷ [])) in
    subst (λ n. HasRoomFor (length (map corners_of c.tunnel.result)) n) (sym bare)
    (subst (λ cs. HasRoomFor (length cs) (without_faces m (c.args.s.now.left_face ∷ c.args.s.now.right_face ∷ c.args.t.now.left_face ∷ c.args.t.now.right_face ∷ []))) (sym c.tunnel.ensures)
    (tried_room m c.args.s.now c.args.t.now (g.met.S.Surface.sound c.args.mesh.now) c.requires.closed c.requires.tried))

pub returns-clause-doubled : goal.returns-clause-doubled
returns-clause-doubled g c =
    let m = g.S.Surface.mesh c.args.mesh.now in
    let gone = c.in_ok-drop_face-2.ensures.ok ∙ ap (λ n. without_face n c.s.inside.right_face) c.in_ok-drop_face.ensures.ok in
    let gone3 = c.in_ok-drop_face-3.ensures.ok ∙ ap (λ n. without_face n c.t.inside.left_face) gone in
    let bare = c.in_ok-drop_face-4.ensures.ok ∙ ap (λ n. without_face n c.t.inside.right_face) gone3
    ∙ (λ i. without_faces m ((c.s.view_is i).left_face ∷ (c.s.view_is i).right_face ∷ (c.t.view_is i).left_face ∷ (c.t.view_is i).right_face ∷ [])) in
    let put : with_faces (g.S.Surface.mesh c.drop_face-4.new.self) (map corners_of c.tunnel.result) ≡ zip_mesh m c.args.s.now c.args.t.now c.args.turn = λ i. with_faces (bare i) (c.tunnel.ensures i) in
    subst (λ n. IfOk c.make_unless_doubled.result (λ all. not all ≡ doubles_a_face n)) put c.make_unless_doubled.ensures.doubled

pub returns-clause-made : goal.returns-clause-made
returns-clause-made g c =
    let m = g.S.Surface.mesh c.args.mesh.now in
    let gone = c.in_ok-drop_face-2.ensures.ok ∙ ap (λ n. without_face n c.s.inside.right_face) c.in_ok-drop_face.ensures.ok in
    let gone3 = c.in_ok-drop_face-3.ensures.ok ∙ ap (λ n. without_face n c.t.inside.left_face) gone in
    let bare = c.in_ok-drop_face-4.ensures.ok ∙ ap (λ n. without_face n c.t.inside.right_face) gone3
    ∙ (λ i. without_faces m ((c.s.view_is i).left_face ∷ (c.s.view_is i).right_face ∷ (c.t.view_is i).left_face ∷ (c.t.view_is i).right_face ∷ [])) in
    let put : with_faces (g.S.Surface.mesh c.drop_face-4.new.self) (map corners_of c.tunnel.result) ≡ zip_mesh m c.args.s.now c.args.t.now c.args.turn = λ i. with_faces (bare i) (c.tunnel.ensures i) in
    subst (λ n. IfOk c.make_unless_doubled.result (λ all. all ≡ true → g.S.Surface.mesh c.make_unless_doubled.new.mesh ≡ n)) put c.make_unless_doubled.ensures.made

pub returns-in_err-drop_face-2-clause-marks : goal.returns-in_err-drop_face-2-clause-marks
returns-in_err-drop_face-2-clause-marks g c =
    let kept = g.S.Surface.kept in
    begins_along (kept c.drop_face-2.new.self) (kept c.drop_face.new.self) (kept c.args.mesh.now) c.drop_face-2.ensures.marks c.drop_face.ensures.marks

pub returns-in_err-drop_face-3-clause-marks : goal.returns-in_err-drop_face-3-clause-marks
returns-in_err-drop_face-3-clause-marks g c =
    let kept = g.S.Surface.kept in
    let two = begins_along (kept c.drop_face-2.new.self) (kept c.drop_face.new.self) (kept c.args.mesh.now) c.drop_face-2.ensures.marks c.drop_face.ensures.marks in
    begins_along (kept c.drop_face-3.new.self) (kept c.drop_face-2.new.self) (kept c.args.mesh.now) c.drop_face-3.ensures.marks two

pub returns-in_err-drop_face-4-clause-marks : goal.returns-in_err-drop_face-4-clause-marks
returns-in_err-drop_face-4-clause-marks g c =
    let kept = g.S.Surface.kept in
    let two = begins_along (kept c.drop_face-2.new.self) (kept c.drop_face.new.self) (kept c.args.mesh.now) c.drop_face-2.ensures.marks c.drop_face.ensures.marks in
    let three = begins_along (kept c.drop_face-3.new.self) (kept c.drop_face-2.new.self) (kept c.args.mesh.now) c.drop_face-3.ensures.marks two in
    begins_along (kept c.drop_face-4.new.self) (kept c.drop_face-3.new.self) (kept c.args.mesh.now) c.drop_face-4.ensures.marks three

pub returns-clause-marks : goal.returns-clause-marks
returns-clause-marks g c =
    let kept = g.S.Surface.kept in
    let two = begins_along (kept c.drop_face-2.new.self) (kept c.drop_face.new.self) (kept c.args.mesh.now) c.drop_face-2.ensures.marks c.drop_face.ensures.marks in
    let three = begins_along (kept c.drop_face-3.new.self) (kept c.drop_face-2.new.self) (kept c.args.mesh.now) c.drop_face-3.ensures.marks two in
    let four = begins_along (kept c.drop_face-4.new.self) (kept c.drop_face-3.new.self) (kept c.args.mesh.now) c.drop_face-4.ensures.marks three in
    begins_along (kept c.make_unless_doubled.new.mesh) (kept c.drop_face-4.new.self) (kept c.args.mesh.now) c.make_unless_doubled.ensures.marks four
