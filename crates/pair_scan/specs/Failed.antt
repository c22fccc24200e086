-- Pairs that do not pass in a motion.
use Rattle.std.specs.Prelude.{ℕ, Bool, ◌↔◌, not, List, map}
use Rattle.std.specs.List.{filter, Contains}
use Rattle.std.specs.List.Sorted.{IsStrictlySortedBy}
use Rattle.grid_base.specs.Separation.{Passes}
use Rattle.grid_base.specs.SeparationTests.{passes}
use Rattle.grid_decided.specs.Decided.{meets_exactly}
use Rattle.mesh_base.specs.declared.ids.PairName.{PairName}
use Rattle.mesh_base.specs.Failing.{pair_passes}
use Rattle.mesh_base.specs.declared.ids.Corners.{Corners}
use Rattle.mesh_base.specs.Mesh.{Mesh}
use Rattle.mesh_base.specs.Placements.{Motion, positions}
use Rattle.mesh_base.specs.Pairs.{Pair, IsPair, name_cmp}
use Rattle.mesh_base.specs.Shifts.{Shifts, moved_by}
use Rattle.pair_paths.specs.declared.MovingEdge.{MovingEdge}
use Rattle.pair_paths.specs.declared.MovingFace.{MovingFace}
use Rattle.pair_paths.specs.Pairing.{starts, ends}

-- whether the edge and the face do not pass
abbrev pub do_not_pass : ℕ → MovingEdge → MovingFace → Bool
do_not_pass depth e f = not (passes meets_exactly depth (starts e f) (ends e f))

-- the names of those of these pairs that do not pass in the motion
abbrev pub failing_of : ℕ → Motion → List Pair → List PairName
failing_of depth w ps =
    map (λ p. p.name) (filter (λ p. not (pair_passes meets_exactly depth w p)) ps)

-- the pair does not pass in the motion
abbrev pub DoesNotPass : ℕ → Motion → Pair → Type 0
DoesNotPass depth w p = ¬ (Passes depth (positions w.start p) (positions w.end p))

-- the name is that of a pair of the mesh, and the pair does not pass
abbrev pub IsFailing : Mesh → Shifts → ℕ → PairName → Type 0
IsFailing m by depth n =
    (c : Corners) × IsPair m (record { name = n; corners = c })
    × DoesNotPass depth (moved_by m by) (record { name = n; corners = c })

-- the list has the name of each pair that does not pass, once, and no other, in order
pub record AreFailing (m : Mesh) (by : Shifts) (depth : ℕ) (names : List PairName) : Type 0 where
  pub each : (n : PairName) → Contains names n ↔ IsFailing m by depth n
  pub rising : IsStrictlySortedBy name_cmp names
