-- Faces with boxes, and the searches among them.
use Rattle.std.specs.Prelude.{ℕ, Bool, ◌&&◌, List, map}
use Rattle.std.specs.List.{find, filter, list_any}
use Rattle.std.specs.Option.{option_map}
use Rattle.std.proofs.Common.{Option}
use Rattle.mesh_base.specs.declared.ids.PairName.{PairName}
use Rattle.mesh_base.specs.Sides.{has_corner}
use Rattle.edit_base.specs.declared.Move.{Move}
use Rattle.edit_base.specs.declared.Touch.{Touch}
use Rattle.pair_paths.specs.declared.MovingEdge.{MovingEdge}
use Rattle.pair_paths.specs.declared.MovingFace.{MovingFace}
use Rattle.pair_paths.specs.Pairing.{name_with}
use Rattle.edit_check.specs.declared.boxed.BoxedFace.{BoxedFace}
use Rattle.edit_check.specs.Failing.{fails}
use Rattle.edit_check.specs.Touched.{is_touched}

-- the faces alone
abbrev pub faces_in : List BoxedFace → List MovingFace
faces_in boxed = map (λ f. f.face) boxed

-- the name of the first face that fails with the edge to do what is required, with the edge
abbrev pub first_failing_boxed : Touch → List ℕ → ℕ → MovingEdge → List BoxedFace → Option PairName
first_failing_boxed touch together depth e faces =
    option_map (λ f. name_with e f.face) (find (λ f. fails touch together depth e f.face) faces)

-- the edge is a side of one of the faces
abbrev pub is_side_of_boxed : ℕ → ℕ → List BoxedFace → Bool
is_side_of_boxed a b faces =
    list_any (λ f. has_corner f.face.corners a && has_corner f.face.corners b) faces

-- those of the faces that are touched
abbrev pub touched_boxed : List Move → List ℕ → ℕ → List BoxedFace → List BoxedFace
touched_boxed moves together fresh_from faces =
    filter (λ f. is_touched moves together fresh_from f.face) faces
