-- The sides of faces, as edges.
use Rattle.std.specs.Prelude.{ℕ, Bool, List}
use Rattle.std.specs.List.{list_any}
use Rattle.mesh_base.specs.Sides.{follows}
use Rattle.pair_paths.specs.declared.MovingEdge.{MovingEdge}
use Rattle.pair_paths.specs.declared.MovingFace.{MovingFace}
use Rattle.edit_check.specs.declared.boxed.BoxedFace.{BoxedFace}
use Rattle.edit_check.specs.declared.sides.Side.{Side}
use Rattle.edit_check.specs.declared.sides.Side.TheVariants.{First, Second, Third}

-- the side from the first corner to the second
abbrev pub first_side : MovingFace → MovingEdge
first_side f = record { a = f.corners.first; b = f.corners.second; first = f.c; second = f.d }

-- the side from the second corner to the third
abbrev pub second_side : MovingFace → MovingEdge
second_side f = record { a = f.corners.second; b = f.corners.third; first = f.d; second = f.e }

-- the side from the third corner to the first
abbrev pub third_side : MovingFace → MovingEdge
third_side f = record { a = f.corners.third; b = f.corners.first; first = f.e; second = f.c }

-- that side of the face
abbrev pub side_of : Side → MovingFace → MovingEdge
side_of First f = first_side f
side_of Second f = second_side f
side_of Third f = third_side f

-- the edge, its other end first
abbrev pub turned : MovingEdge → MovingEdge
turned e = record { a = e.b; b = e.a; first = e.second; second = e.first }

-- one of the faces runs from the one vertex to the other
abbrev pub is_run_by_some : ℕ → ℕ → List BoxedFace → Bool
is_run_by_some u v faces = list_any (λ f. follows f.face.corners u v) faces
