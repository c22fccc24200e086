-- Whether a side of one of two faces fails with the other.
use Rattle.std.specs.Prelude.{Bool, not, ◌&&◌, ◌||◌, List, true, false, nat_lt, if◌then◌else◌}
use Rattle.std.specs.List.{list_any}
use Rattle.pair_paths.specs.declared.MovingEdge.{MovingEdge}
use Rattle.pair_paths.specs.declared.MovingFace.{MovingFace}
use Rattle.edit_check.specs.declared.boxed.BoxedFace.{BoxedFace}
use Rattle.edit_check.specs.declared.terms.Terms.{Terms}
use Rattle.edit_check.specs.Boxed.{is_side_of_boxed}
use Rattle.edit_check.specs.Failing.{fails}
use Rattle.edit_check.specs.Sides.{first_side, second_side, third_side, turned, is_run_by_some}

-- the side as an edge, its smaller end first
abbrev pub upward : MovingEdge → MovingEdge
upward e = if nat_lt e.b e.a then turned e else e

-- the side runs down, and one of the faces runs the other way
abbrev pub runs_down_beside : List BoxedFace → MovingEdge → Bool
runs_down_beside faces side = nat_lt side.b side.a && is_run_by_some side.b side.a faces

-- the side is asked for at another face: at a touched one, if it is a side of
-- a touched one, and where a face runs up
abbrev pub is_asked_elsewhere : List BoxedFace → List BoxedFace → Bool → MovingEdge → Bool
is_asked_elsewhere faces touched is_own side =
    if is_own then runs_down_beside touched side
    else (is_side_of_boxed side.a side.b touched || runs_down_beside faces side)

-- it is not, and as an edge it fails with the face to do what is required
abbrev pub side_fails : Terms → List BoxedFace → List BoxedFace → Bool → MovingEdge → MovingFace →
    Bool
side_fails t faces touched is_own side f =
    not (is_asked_elsewhere faces touched is_own side)
    && fails t.touch t.together.now t.depth (upward side) f

-- so does one of the sides of the first face with the second face
abbrev pub sides_fail : Terms → List BoxedFace → List BoxedFace → Bool → MovingFace → MovingFace →
    Bool
sides_fail t faces touched is_own f g =
    side_fails t faces touched is_own (first_side f) g
    || side_fails t faces touched is_own (second_side f) g
    || side_fails t faces touched is_own (third_side f) g

-- so does one of the sides of a touched face with a face, or one of that face's with it
abbrev pub faces_fail : Terms → List BoxedFace → List BoxedFace → MovingFace → MovingFace → Bool
faces_fail t faces touched f g =
    sides_fail t faces touched true f g || sides_fail t faces touched false g f

-- so do a touched face and one of some faces
abbrev pub fails_with_some : Terms → List BoxedFace → List BoxedFace → MovingFace → List BoxedFace →
    Bool
fails_with_some t faces touched f some = list_any (λ g. faces_fail t faces touched f g.face) some

-- so do one of some touched faces and one of the faces
abbrev pub some_touched_fail : Terms → List BoxedFace → List BoxedFace → List BoxedFace → Bool
some_touched_fail t faces touched some =
    list_any (λ f. fails_with_some t faces touched f.face faces) some
