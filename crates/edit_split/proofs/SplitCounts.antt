-- How many vertices and faces a mesh has after a split, and when it passes a limit.
use Rattle.std.proofs.Common.{◌≡◌, ℕ, ◌+◌, ◌≤◌, Bool, true, false, ◌||◌, nat_lt, [], ◌∷◌, is_some, ap, arith}
use Rattle.std.proofs.lemmas.Bool.Decides.{nat_tests}
use Rattle.std.specs.FinMap as finite
use Rattle.grid_base.specs.declared.TheConstants.{ID_MAX}
use Rattle.grid_base.specs.declared.Point.{Point}
use Rattle.mesh_base.specs.Mesh.{Mesh, IsSound}
use Rattle.mesh_base.specs.Changes.{with_vertex, without_face}
use Rattle.mesh_base.specs.Limits.{are_over, is_over_limits}
use Rattle.edit_base.specs.Edges.{Edge, without_faces}
use Rattle.edit_split.specs.Split.{split_faces, split_mesh, split_is_over}
use Rattle.edit_base.specs.Beside.{IsBeside}
use Rattle.edit_acts.proofs.Flow.{AreBelow, below-without, below_next}
use Rattle.edit_acts.proofs.Counting.{len-with_new, len-with_faces, len-without_two, next_is_no_vertex}

at_most : (v n : ℕ) → nat_lt n v ≡ false → v ≤ n
at_most v n h = grind (arith, nat_tests)

last_of : (a b : Bool) → (a || b) ≡ false → b ≡ false
last_of true b e = cc
last_of false b e = e

module _ (m : Mesh) (s : Edge) (sound : IsSound m) (beside : IsBeside m s) where
  abbrev pub bare : Mesh
  bare = without_faces m (s.left_face ∷ s.right_face ∷ [])

  pub bare_below : AreBelow bare
  bare_below = below-without (without_face m s.left_face) s.right_face (below-without m s.left_face (below_next m sound))

  pub len-bare : finite.len bare.faces + 2 ≡ finite.len m.faces
  len-bare = len-without_two m s.left_face s.right_face (ap is_some beside.left_face) (ap is_some beside.right_face) beside.two_faces

  pub split_vertices : (at : Point) → finite.len (split_mesh m s at).points ≡ finite.len m.points + 1
  split_vertices at = len-with_new m.points m.next_vertex at (next_is_no_vertex m sound.is_mesh)

  pub split_count : (at : Point) → finite.len (split_mesh m s at).faces ≡ finite.len m.faces + 2
  split_count at = four_more _ _ _ len-bare (len-with_faces (with_vertex bare at) (split_faces s m.next_vertex) bare_below)
    where
      four_more : (bare all now : ℕ) → bare + 2 ≡ all → now ≡ bare + 4 → now ≡ all + 2
      four_more bare all now e g = omega arith

  -- a split takes room for one vertex and two faces, and four ids of faces
  pub split_over : (at : Point) → is_over_limits (split_mesh m s at) ≡ split_is_over m
  split_over at = λ i. are_over m.limits (split_vertices at i) (split_count at i) (m.next_vertex + 1) (ids m.next_face i)
    where
      ids : (n : ℕ) → n + 1 + 1 + 1 + 1 ≡ n + 4
      ids n = omega arith

  -- four ids of faces are left
  pub ids_for_four : split_is_over m ≡ false → m.next_face + 4 ≤ ID_MAX + 1
  ids_for_four e = at_most (m.next_face + 4) (ID_MAX + 1) (last_of _ (nat_lt (ID_MAX + 1) (m.next_face + 4)) e)
