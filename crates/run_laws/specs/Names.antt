-- What a sound mesh names is in the log's ranges, as statements.
use Rattle.std.specs.Prelude.{ℕ, ◌<◌, ◌≤◌, Bool, List, length, IfSome}
use Rattle.std.specs.List.{All}
use Rattle.grid_base.specs.declared.Positions.{Positions}
use Rattle.grid_base.specs.declared.TheConstants.{ID_MAX}
use Rattle.mesh_base.specs.Mesh.{Mesh, IsSound, IsLiveVertex, IsLiveFace}
use Rattle.mesh_base.specs.Sides.{IsEdge}
use Rattle.mesh_base.specs.Pairs.{Pair, IsPair}
use Rattle.mesh_base.specs.Placements.{Placement}
use Rattle.mesh_base.specs.Shifts.{Shifts}
use Rattle.mesh_base.specs.Failing.{failing, first_meeting}
use Rattle.step_zones.specs.Zones.{Labels, blocks}
use Rattle.log_read.specs.Laws.{IsFrom, AreRising, IsEdgeInRange, IsPairInRange}

-- an id that a log may name
abbrev pub IsId : ℕ → Type 0
IsId id = IsFrom 1 ID_MAX id

-- two ids or more, rising
abbrev pub IsBlockInRange : List ℕ → Type 0
IsBlockInRange ids = (2 ≤ length ids) × AreRising 1 ids

-- live vertices
abbrev pub VerticesAreInRange : Type 0
VerticesAreInRange = (m : Mesh) → IsSound m → (v : ℕ) → IsLiveVertex m v → IsId v

-- live faces
abbrev pub FacesAreInRange : Type 0
FacesAreInRange = (m : Mesh) → IsSound m → (f : ℕ) → IsLiveFace m f → IsId f

-- edges, the smaller end first
abbrev pub EdgesAreInRange : Type 0
EdgesAreInRange = (m : Mesh) → IsSound m → (u v : ℕ) → u < v → IsEdge m u v → IsEdgeInRange u v

-- pairs, by their names
abbrev pub PairsAreInRange : Type 0
PairsAreInRange = (m : Mesh) → IsSound m → (p : Pair) → IsPair m p → IsPairInRange p.name

-- the pairs that fail
abbrev pub FailingPairsAreInRange : Type 0
FailingPairsAreInRange = (meets : Positions → Bool) (m : Mesh) (shifts : Shifts) (depth : ℕ) →
    IsSound m → All IsPairInRange (failing meets m shifts depth)

-- the first pair that meets, if one does
abbrev pub FirstMeetingIsInRange : Type 0
FirstMeetingIsInRange = (meets : Positions → Bool) (m : Mesh) (at : Placement) → IsSound m →
    IfSome (first_meeting meets m at) IsPairInRange

-- blocks of two or more live vertices, however these are labelled
abbrev pub BlocksAreInRange : Type 0
BlocksAreInRange = (m : Mesh) (at : Labels) → IsSound m → All IsBlockInRange (blocks m at)
