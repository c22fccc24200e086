-- Whether an edge and a face do what is required of them.
use Rattle.std.specs.Prelude.{ℕ, Bool, ◌&&◌, not, List, if◌then◌else◌}
use Rattle.std.specs.List.{find, list_any}
use Rattle.std.specs.Option.{option_map}
use Rattle.std.proofs.Common.{Option}
use Rattle.grid_base.specs.SeparationTests.{passes}
use Rattle.grid_decided.specs.Decided.{meets_exactly}
use Rattle.motion_test.specs.declared.Pair.{Pair as MotionPair}
use Rattle.motion_test.specs.Pairs.{positions_of}
use Rattle.mesh_base.specs.declared.ids.PairName.{PairName}
use Rattle.mesh_base.specs.Sides.{has_corner}
use Rattle.edit_base.specs.declared.Touch.{Touch}
use Rattle.edit_base.specs.Scaffold.{joins_contacts, meets_contact_rule}
use Rattle.pair_paths.specs.declared.MovingEdge.{MovingEdge}
use Rattle.pair_paths.specs.declared.MovingFace.{MovingFace}
use Rattle.pair_paths.specs.Pairing.{have_a_vertex_in_common, name_with, pair_with, starts, ends}

-- the pair passes
abbrev pub pair_passes : ℕ → MotionPair → Bool
pair_passes depth p = passes meets_exactly depth (positions_of p.start) (positions_of p.end)

-- it does what is required of a pair of which each member holds a vertex that may touch
abbrev pub pair_meets_contact_rule : Touch → ℕ → MotionPair → Bool
pair_meets_contact_rule touch depth p =
    meets_contact_rule meets_exactly touch depth (positions_of p.start) (positions_of p.end)

-- they do what is required of them, where they are a pair
abbrev pub do_as_required : Touch → List ℕ → ℕ → MovingEdge → MovingFace → Bool
do_as_required touch together depth e f =
    if joins_contacts together (pair_with e f)
    then meets_contact_rule meets_exactly touch depth (starts e f) (ends e f)
    else passes meets_exactly depth (starts e f) (ends e f)

-- they are a pair, and do not do what is required of them
abbrev pub fails : Touch → List ℕ → ℕ → MovingEdge → MovingFace → Bool
fails touch together depth e f =
    not (have_a_vertex_in_common e f) && not (do_as_required touch together depth e f)

-- the name of the first face that fails with the edge to do what is required, with the edge
abbrev pub first_failing_among : Touch → List ℕ → ℕ → MovingEdge → List MovingFace → Option PairName
first_failing_among touch together depth e faces =
    option_map (name_with e) (find (λ f. fails touch together depth e f) faces)

-- the edge is a side of one of the faces
abbrev pub is_side_of_some : ℕ → ℕ → List MovingFace → Bool
is_side_of_some a b faces = list_any (λ f. has_corner f.corners a && has_corner f.corners b) faces
