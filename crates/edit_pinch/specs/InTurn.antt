-- When the changes of a pinch can be made, one after another.
use Rattle.std.specs.Prelude.{◌≡◌, ⊤, ℕ, List, [], ◌∷◌, zip}
use Rattle.std.specs.List.{fold}
use Rattle.in_out.specs.InOut.{InOut, value_before, value_after}
use Rattle.grid_base.specs.declared.Point.{Point}
use Rattle.mesh_base.specs.Mesh.{Mesh, IsLiveFace}
use Rattle.mesh_base.specs.Changes.{without_face, with_vertex, with_point, IsFresh, IsFullOfFaces, IsFullOfVertices}
use Rattle.edit_base.specs.Edges.{corners_at, renamed, with_renamed}
use Rattle.edit_base.specs.declared.answers.CopyAt.{CopyAt}
use Rattle.edit_pinch.specs.Pinch.{with_copy, copy_points}

-- a face can be dropped and made again with w in v's place
pub record MayBeRemade (v w : ℕ) (m : Mesh) (f : ℕ) : Type 0 where
  pub live : IsLiveFace m f
  pub fresh : IsFresh (without_face m f) (renamed v w (corners_at m f))
  pub room : ¬ IsFullOfFaces (without_face m f)

-- each of the faces can, when its turn comes
abbrev pub RemadeInTurn : ℕ → ℕ → Mesh → List ℕ → Type 0
RemadeInTurn v w m [] = ⊤
RemadeInTurn v w m (f ∷ fs) = MayBeRemade v w m f × RemadeInTurn v w (with_renamed v w m f) fs

-- a copy for a fan can be made at a point, and then the fan's faces again
pub record MayBeCopied (v : ℕ) (m : Mesh) (fan : List ℕ) (at : Point) : Type 0 where
  pub room : ¬ IsFullOfVertices m
  pub faces : RemadeInTurn v m.next_vertex (with_vertex m at) fan

-- each of the copies can, when its turn comes
abbrev pub CopiedInTurn : ℕ → Mesh → List (List ℕ × Point) → Type 0
CopiedInTurn v m [] = ⊤
CopiedInTurn v m (copy ∷ copies) =
    MayBeCopied v m copy.0 copy.1 × CopiedInTurn v (with_copy v m copy) copies

-- fans, each with the point where its copy ends
abbrev pub fan_ends : List (List ℕ) → List CopyAt → List (List ℕ × Point)
fan_ends fans copies = zip fans (copy_points copies)

-- v was put at a point, and then copies of it were made for fans
abbrev pub IsCopied : {S : Type 0} → (S → Mesh) → InOut S → ℕ → Point → List (List ℕ × Point) →
    Type 0
IsCopied mesh surface v at copies = mesh (value_after surface) ≡
    fold (with_copy v) (with_point (mesh (value_before surface)) v at) copies
