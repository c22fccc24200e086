-- When a mesh is clear where it is untouched.
use Rattle.std.proofs.Common.{◌≡◌, ℕ, ◌+◌, ◌<◌, ◌≤◌, List, [], ◌∷◌, None, is_some, ⊎_elim, sym, ap, subst, ◌∙◌, arith}
use Rattle.grid_base.specs.Meeting.{MeetAt}
use Rattle.grid_base.specs.Triples.{times}
use Rattle.grid_base.proofs.MeetingLaws.{Meets-unmultiple}
use Rattle.mesh_base.specs.declared.ids.Corners.{Corners}
use Rattle.mesh_base.specs.Mesh.{Mesh, IsSound, IsLiveVertex, HasCorners}
use Rattle.mesh_base.specs.Sides.{IsEdge}
use Rattle.mesh_base.specs.Pairs.{Pair, IsPair}
use Rattle.mesh_base.specs.Changes.{with_face, without_face}
use Rattle.mesh_base.specs.Placements.{rest_positions, rest_positions_doubled, positions, IsClearMesh}
use Rattle.mesh_base.proofs.Finite.{got_after_insert, got_after_remove}
use Rattle.mesh_base.proofs.Listed.{edge_live}
use Rattle.edit_base.specs.declared.Move.{Move}
use Rattle.edit_base.specs.Scaffold.{move_of}
use Rattle.edit_base.specs.Edges.{with_faces, without_faces}
use Rattle.edit_acts.proofs.Changed.{next_face-without_faces, points-without_faces, points-with_faces}
use Rattle.edit_acts.proofs.FaceCorners.{edge_of_step, edge_turned}
use Rattle.edit_check.specs.Untouched.{IsUntouched, IsClearWhereUntouched}
use Rattle.edit_check.specs.Agreeing.{AgreesWhereOld}

-- a clear mesh is
pub clear_mesh_is : (m : Mesh) (moves : List Move) (fresh_from : ℕ) → IsClearMesh m → IsClearWhereUntouched m moves fresh_from
clear_mesh_is m moves fresh_from clear p untouched meet = clear p untouched.is_pair (Meets-unmultiple 2 (positions (rest_positions m) p) (omega arith) meet)

-- where all faces are new, each mesh is
pub all_new_is : (m : Mesh) (moves : List Move) → IsSound m → IsClearWhereUntouched m moves 1
all_new_is m moves sound p untouched meet =
    let first : 1 ≤ p.name.face = (sound.is_mesh.face_ids p.name.face (ap is_some untouched.is_pair.face)).0 in
    let old : p.name.face < 1 = untouched.old_face in
    absurd (omega arith)

-- ---- a mesh that is another one but for new and moved parts
module _ (old new : Mesh) (moves : List Move) (sound : IsSound old) (agrees : AgreesWhereOld old new moves) (p : Pair) (untouched : IsUntouched new moves old.next_face p) where
  was_edge : IsEdge old p.name.a p.name.b
  was_edge =
      let side = untouched.old_edge in
      let there = agrees.faces side.face side.corners side.is_face side.is_old in
      ⊎_elim
      (λ e. edge_of_step old side.face side.corners p.name.a p.name.b there e)
      (λ e. edge_turned old p.name.b p.name.a (edge_of_step old side.face side.corners p.name.b p.name.a there e))
      side.side

  was_face : HasCorners old p.name.face p.corners
  was_face = agrees.faces p.name.face p.corners untouched.is_pair.face untouched.old_face

  was_pair : IsPair old p
  was_pair = record { ordered = untouched.is_pair.ordered; edge = was_edge; face = was_face; not_first = untouched.is_pair.not_first; not_second = untouched.is_pair.not_second }

  stood : (v : ℕ) → IsLiveVertex old v → move_of moves v ≡ None → rest_positions_doubled new v ≡ rest_positions_doubled old v
  stood v live rests = ap (times 2) (agrees.points v (sound.is_mesh.vertex_ids v live).1 rests)

  stood_all : positions (rest_positions_doubled new) p ≡ positions (rest_positions_doubled old) p
  stood_all =
      let ends = edge_live old p.name.a p.name.b sound was_edge in
      let corners = sound.is_mesh.live_corners p.name.face p.corners was_face in
      λ i. record {
        a = stood p.name.a ends.0 (untouched.still 0 0 (omega arith)) i;
        b = stood p.name.b ends.1 (untouched.still 1 0 (omega arith)) i;
        c = stood p.corners.first corners.0 (untouched.still 2 0 (omega arith)) i;
        d = stood p.corners.second corners.1 (untouched.still 3 0 (omega arith)) i;
        e = stood p.corners.third corners.2 (untouched.still 4 0 (omega arith)) i;
      }

pub agreeing_is : (old new : Mesh) (moves : List Move) → IsSound old → IsClearMesh old → AgreesWhereOld old new moves → IsClearWhereUntouched new moves old.next_face
agreeing_is old new moves sound clear agrees p untouched meet =
    clear p (was_pair old new moves sound agrees p untouched)
    (Meets-unmultiple 2 (positions (rest_positions old) p) (omega arith) (subst MeetAt (stood_all old new moves sound agrees p untouched) meet))

-- ---- after faces are dropped and made
pub old_of_made : (m : Mesh) (cs : List Corners) (f : ℕ) (c : Corners) → HasCorners (with_faces m cs) f c → f < m.next_face → HasCorners m f c
old_of_made m [] f c there below = there
old_of_made m (k ∷ ks) f c there below = ⊎_elim
    (λ e. let same : f ≡ m.next_face = e.0 in absurd (omega arith))
    (λ old. old)
    (got_after_insert m.faces m.next_face k f c (old_of_made (with_face m k) ks f c there (let h : f < m.next_face + 1 = omega arith in h)))

pub old_of_dropped : (m : Mesh) (fs : List ℕ) (f : ℕ) (c : Corners) → HasCorners (without_faces m fs) f c → HasCorners m f c
old_of_dropped m [] f c there = there
old_of_dropped m (g ∷ gs) f c there = (got_after_remove m.faces g f c (old_of_dropped (without_face m g) gs f c there)).1

-- a mesh of which faces are dropped and others made
pub faces_changed : (m : Mesh) (fs : List ℕ) (cs : List Corners) (moves : List Move) → AgreesWhereOld m (with_faces (without_faces m fs) cs) moves
faces_changed m fs cs moves = record {
  faces = λ f c there below. old_of_dropped m fs f c (old_of_made (without_faces m fs) cs f c there (subst (λ n. f < n) (sym (next_face-without_faces m fs)) below));
  points = λ v below rests. ap (λ ps. rest_positions (record m { points = ps }) v) (points-with_faces (without_faces m fs) cs ∙ points-without_faces m fs);
}
