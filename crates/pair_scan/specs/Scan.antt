-- Pairs that meet.
use Rattle.std.specs.Prelude.{◌≡◌, Bool, List}
use Rattle.std.specs.List.{find}
use Rattle.std.specs.Option.{option_map}
use Rattle.std.specs.declared.cmp.Ordering.TheVariants.{Less}
use Rattle.std.proofs.Common.{Option}
use Rattle.grid_decided.specs.Decided.{meets_exactly}
use Rattle.mesh_base.specs.declared.ids.PairName.{PairName}
use Rattle.mesh_base.specs.Mesh.{Mesh}
use Rattle.mesh_base.specs.declared.ids.Corners.{Corners}
use Rattle.mesh_base.specs.Pairs.{Pair, IsPair, name_cmp}
use Rattle.grid_base.specs.Meeting.{MeetAt}
use Rattle.mesh_base.specs.Placements.{rest_positions, positions}
use Rattle.pair_paths.specs.declared.MovingEdge.{MovingEdge}
use Rattle.pair_paths.specs.declared.MovingFace.{MovingFace}
use Rattle.pair_paths.specs.Pairing.{starts}
pub use Rattle.pair_candidates.specs.Told.{one_or_none}

-- whether the edge and the face meet where they begin
abbrev pub do_meet : MovingEdge → MovingFace → Bool
do_meet e f = meets_exactly (starts e f)

-- the name of the first of these pairs that meets
abbrev pub first_of : Mesh → List Pair → Option PairName
first_of m ps =
    option_map (λ p. p.name) (find (λ p. meets_exactly (positions (rest_positions m) p)) ps)

-- the name is that of a pair of the mesh, and the pair meets
abbrev pub IsMeeting : Mesh → PairName → Type 0
IsMeeting m n =
    (c : Corners) × IsPair m (record { name = n; corners = c })
    × MeetAt (positions (rest_positions m) (record { name = n; corners = c }))

-- no pair that meets comes before this name
abbrev pub NoneMeetsBefore : Mesh → PairName → Type 0
NoneMeetsBefore m n = (o : PairName) → IsMeeting m o → ¬ (name_cmp o n ≡ Less)
