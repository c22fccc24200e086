-- A mesh of which an edge is split agrees with it, but for new faces.
use Rattle.std.proofs.Common.{◌≡◌, ℕ, ◌<◌, false, cond, ◌==◌, List, [], ◌∷◌, sym, ap, subst, ◌∙◌, arith}
use Rattle.std.proofs.lemmas.Bool.Decides.{nat_tests}
use Rattle.grid_base.specs.declared.Point.{Point}
use Rattle.grid_base.specs.Points.{position_of}
use Rattle.mesh_base.specs.declared.ids.Corners.{Corners}
use Rattle.mesh_base.specs.Mesh.{Mesh, IsSound}
use Rattle.mesh_base.specs.Changes.{with_vertex}
use Rattle.mesh_base.specs.Placements.{rest_positions, IsClearMesh}
use Rattle.edit_base.specs.declared.Move.{Move}
use Rattle.edit_base.specs.Edges.{Edge, corners_from, without_faces}
use Rattle.edit_split.specs.Split.{split_mesh}
use Rattle.edit_split.proofs.SplitEnds.{new_point}
use Rattle.edit_check.specs.Untouched.{IsClearWhereUntouched}
use Rattle.edit_check.specs.Agreeing.{AgreesWhereOld}
use Rattle.edit_check.proofs.Premise.{agreeing_is, old_of_made, old_of_dropped}

-- a mesh whose edge is split
pub split_changed : (m : Mesh) (s : Edge) (at : Point) (moves : List Move) → AgreesWhereOld m (split_mesh m s at) moves
split_changed m s at moves =
    let drops = s.left_face ∷ s.right_face ∷ [] in
    let w = m.next_vertex in
    let four : List Corners = corners_from s.a w s.c ∷ corners_from w s.b s.c ∷ corners_from s.b w s.d ∷ corners_from w s.a s.d ∷ [] in
    record {
      faces = λ f c there below. old_of_dropped m drops f c (old_of_made (with_vertex (without_faces m drops) at) four f c there below);
      points = λ v below rests. new_point m s at v ∙ ap (λ b. cond b (position_of at) (rest_positions m v)) (apart v below);
    }
  where
    apart : (v : ℕ) → v < m.next_vertex → (m.next_vertex == v) ≡ false
    apart v below = grind (arith, nat_tests)

-- a clear mesh whose edge is split may be checked, where the faces that the split makes are new
pub split_may_be_checked : (m n : Mesh) (s : Edge) (at : Point) (moves : List Move) (fresh_from : ℕ) → IsSound m → IsClearMesh m → n ≡ split_mesh m s at → fresh_from ≡ m.next_face → IsClearWhereUntouched n moves fresh_from
split_may_be_checked m n s at moves fresh_from sound clear made first =
    subst (λ k. IsClearWhereUntouched n moves k) (sym first)
    (subst (λ (k : Mesh). IsClearWhereUntouched k moves m.next_face) (sym made) (agreeing_is m (split_mesh m s at) moves sound clear (split_changed m s at moves)))
