-- Which faces of a check are touched.
use Rattle.std.specs.Prelude.{ℕ, ◌||◌, Bool, List, is_some, nat_le}
use Rattle.std.specs.List.{list_any, filter}
use Rattle.mesh_base.specs.Sides.{has_corner}
use Rattle.edit_base.specs.declared.Move.{Move}
use Rattle.edit_base.specs.Scaffold.{move_of}
use Rattle.pair_paths.specs.declared.MovingFace.{MovingFace}

-- the vertex is named by a move
abbrev pub is_moved : List Move → ℕ → Bool
is_moved moves v = is_some (move_of moves v)

-- the face is new, or a corner of it moves or is one of those that may touch each other
abbrev pub is_touched : List Move → List ℕ → ℕ → MovingFace → Bool
is_touched moves together fresh_from f =
    nat_le fresh_from f.face || is_moved moves f.corners.first || is_moved moves f.corners.second
    || is_moved moves f.corners.third
    || list_any (λ v. has_corner f.corners v) together

-- those of the faces that are touched
abbrev pub touched_among : List Move → List ℕ → ℕ → List MovingFace → List MovingFace
touched_among moves together fresh_from faces = filter (is_touched moves together fresh_from) faces
