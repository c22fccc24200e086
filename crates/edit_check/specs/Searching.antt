-- The search for the first pair that is not as required, side by side of the faces.
use Rattle.std.specs.Prelude.{ℕ, Bool, not, ◌&&◌, ◌||◌, ◌==◌, false, nat_lt, nat_le, List, [], ◌∷◌, if◌then◌else◌}
use Rattle.std.specs.List.{fold, flat_map}
use Rattle.std.specs.Option.{option_or}
use Rattle.std.proofs.Common.{Option, Some, None}
use Rattle.mesh_base.specs.declared.ids.PairName.{PairName}
use Rattle.pair_paths.specs.declared.MovingEdge.{MovingEdge}
use Rattle.pair_paths.specs.declared.MovingFace.{MovingFace}
use Rattle.edit_check.specs.declared.boxed.BoxedFace.{BoxedFace}
use Rattle.edit_check.specs.declared.terms.Terms.{Terms}
use Rattle.edit_check.specs.Boxed.{first_failing_boxed, is_side_of_boxed}
use Rattle.edit_check.specs.Sides.{first_side, second_side, third_side, turned, is_run_by_some}

-- the first pair of an edge, with all faces where it is a side of a touched
-- one, and else with the touched ones
abbrev pub first_near : Terms → List BoxedFace → List BoxedFace → MovingEdge → Option PairName
first_near t faces touched e =
    first_failing_boxed t.touch t.together.now t.depth e
    (if is_side_of_boxed e.a e.b touched then faces else touched)

-- what is found so far is a pair of this edge or of an earlier one
abbrev pub is_settled : Option PairName → ℕ → ℕ → Bool
is_settled (Some n) a b = nat_lt n.a a || ((n.a == a) && nat_le n.b b)
is_settled None a b = false

-- what is found once an edge more is looked at
abbrev pub with_edge : (MovingEdge → Option PairName) → Option PairName → MovingEdge →
    Option PairName
with_edge first found e = if is_settled found e.a e.b then found else option_or (first e) found

-- the side as an edge, its smaller end first, in a list of one; none, where
-- another of the faces runs that way
abbrev pub edges_at : List BoxedFace → MovingEdge → List MovingEdge
edges_at faces side =
    if nat_lt side.a side.b then side ∷ []
    else (if nat_lt side.b side.a && not (is_run_by_some side.b side.a faces)
    then turned side ∷ [] else [])

-- those of the three sides of a face
abbrev pub edges_of : List BoxedFace → MovingFace → List MovingEdge
edges_of faces f = flat_map (edges_at faces) (first_side f ∷ second_side f ∷ third_side f ∷ [])

-- what is found once the sides of some of the faces are looked at
abbrev pub with_faces : Terms → List BoxedFace → List BoxedFace → Option PairName → List BoxedFace →
    Option PairName
with_faces t faces touched found some =
    fold (with_edge (first_near t faces touched)) found (flat_map (λ f. edges_of faces f.face) some)
