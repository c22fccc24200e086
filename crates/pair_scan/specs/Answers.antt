-- What a scan answers of the pairs of a mesh.
use Rattle.std.specs.Prelude.{◌≡◌, ℕ, Bool, IsTrue, List, []}
use Rattle.std.proofs.Common.{Option}
use Rattle.grid_decided.specs.Decided.{meets_exactly}
use Rattle.mesh_base.specs.declared.ids.PairName.{PairName}
use Rattle.mesh_base.specs.Failing.{failing, first_meeting}
use Rattle.mesh_base.specs.Mesh.{Mesh}
use Rattle.mesh_base.specs.Placements.{IsClearAlong, rest_positions}
use Rattle.mesh_base.specs.Shifts.{Shifts, moved_by}
use Rattle.pair_scan.specs.Found.{has_none}

-- the names are those of all pairs that do not pass where each vertex goes from its point
-- by its shift, in order of the edge and then of the face
abbrev pub AreAllFailing : Mesh → Shifts → ℕ → List PairName → Type 0
AreAllFailing m by depth names = names ≡ failing meets_exactly m by depth

-- the answer is whether all pairs pass
abbrev pub TellsWhetherAllPass : Mesh → Shifts → ℕ → Bool → Type 0
TellsWhetherAllPass m by depth pass = pass ≡ has_none (failing meets_exactly m by depth)

-- no pair meets at any fraction of the way
abbrev pub IsClearOnTheWay : Mesh → Shifts → Type 0
IsClearOnTheWay m by = IsClearAlong m (moved_by m by)

-- where no pair is named, none meets on the way
abbrev pub IsClearIfNone : Mesh → Shifts → List PairName → Type 0
IsClearIfNone m by names = names ≡ [] → IsClearOnTheWay m by

-- where the answer is that all pairs pass, none meets on the way
abbrev pub IsClearIfAllPass : Mesh → Shifts → Bool → Type 0
IsClearIfAllPass m by pass = IsTrue pass → IsClearOnTheWay m by

-- the answer is the first pair, in order of the edge and then of the face, that meets where
-- the vertices stand; or None, where none meets
abbrev pub IsFirstMeeting : Mesh → Option PairName → Type 0
IsFirstMeeting m found = found ≡ first_meeting meets_exactly m (rest_positions m)
