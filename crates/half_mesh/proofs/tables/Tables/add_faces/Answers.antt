use Rattle.std.proofs.Common.{◌≡◌, ◌<◌, ◌+◌, ℕ, length, take, get_or, [], sym, ap, subst, ◌∙◌, arith}
use Rattle.std.proofs.lemmas.List.{take_more, length-take-le}
use Rattle.std.specs.FinMap as finite
use Rattle.mesh_base.specs.Given.{mesh_under}
use Rattle.mesh_base.specs.Mesh.{Mesh, IsLiveFace, AreLive, AreDifferent}
use Rattle.mesh_base.specs.Changes.{with_face, corners_of}
use Rattle.mesh_shape.proofs.Lists.{mesh_under-face, sound-mesh_under}
use Rattle.half_mesh.proofs.GivenLists.{face_ids_of, len_faces, corners_given}
use Rattle.half_mesh.specs.States.{State, none_buried, with_mesh}
use Rattle.half_mesh.proofs.tables.Tables.add_faces.Goals as goal

pub add_face-requires : goal.add_face-requires
add_face-requires c =
    let ps = c.args.lists.now.points in
    let fs = c.args.lists.now.faces in
    let i = c.loop-f.f-index in
    let m = ap (λ (x : State). x.mesh) c.loop-f.invariant in
    let inside : i < length fs = omega (arith, ap length c.as_slice-f-items.ensures) in
    let here : get_or c.as_slice-f-items.result.now i [] ≡ get_or fs i [] = ap (λ xs. get_or xs i []) c.as_slice-f-items.ensures in
    let sound = sound-mesh_under c.args.scale ps fs c.requires.fit in
    let given = corners_given c.args.scale ps fs i inside in
    let long = length-take-le i fs (omega arith) in
    let few = sound.limits.faces in
    let limit = sound.limits.face_ids in
    let all = len_faces c.args.scale ps fs in
    let now = len_faces c.args.scale ps (take i fs) in
    let count = ap (λ (x : Mesh). finite.len x.faces) m in
    let next = ap (λ (x : Mesh). x.next_face) m in
    record {
      next = omega (arith, next, limit, long);
      ids = subst (λ x. (f : ℕ) → IsLiveFace x f → f < x.next_face) (sym m) (face_ids_of c.args.scale ps (take i fs));
      few = omega (arith, count, now, all, few, long);
      live = subst (λ x. AreLive x (corners_of (get_or c.as_slice-f-items.result.now i []))) (sym m) (subst (λ l. AreLive (mesh_under c.args.scale ps (take i fs)) (corners_of l)) (sym here) (sound.is_mesh.live_corners (i + 1) (corners_of (get_or fs i [])) given));
      different = subst (λ l. AreDifferent (corners_of l)) (sym here) (sound.is_mesh.different_corners (i + 1) (corners_of (get_or fs i [])) given);
    }

pub loop-f-preserved : goal.loop-f-preserved
loop-f-preserved c =
    let ps = c.args.lists.now.points in
    let fs = c.args.lists.now.faces in
    let i = c.loop-f.f-index in
    let inside : i < length fs = omega (arith, ap length c.as_slice-f-items.ensures) in
    let same = ap (λ xs. corners_of (get_or xs i [])) c.as_slice-f-items.ensures in
    c.in_ok-add_face.ensures.ok
    ∙ ap (λ x. with_mesh c.loop-f.self.state (with_face c.loop-f.self.state.mesh x)) same
    ∙ ap (λ (x : State). with_mesh x (with_face x.mesh (corners_of (get_or fs i [])))) c.loop-f.invariant
    ∙ ap (λ m. record { mesh = m; buried = none_buried }) (mesh_under-face c.args.scale ps (take i fs) (get_or fs i []) ∙ ap (mesh_under c.args.scale ps) (sym (take_more fs i [] inside)))
