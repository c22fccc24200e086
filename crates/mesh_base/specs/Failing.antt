-- The pairs that do not pass, and those that meet. `meets` is a test that
-- tells whether five positions meet.
use Rattle.std.specs.Prelude.{ℕ, Bool, not, List, map}
use Rattle.std.specs.Option.{option_map}
use Rattle.std.specs.List.{filter, find}
use Rattle.std.proofs.Common.{Option}
use Rattle.grid_base.specs.declared.Positions.{Positions}
use Rattle.mesh_base.specs.declared.ids.PairName.{PairName}
use Rattle.mesh_base.specs.Mesh.{Mesh}
use Rattle.mesh_base.specs.Pairs.{Pair, pairs}
use Rattle.mesh_base.specs.Placements.{Placement, Motion, positions}
use Rattle.grid_base.specs.SeparationTests.{passes}
use Rattle.mesh_base.specs.Shifts.{Shifts, moved_by}

-- whether the pair passes in the motion
abbrev pub pair_passes : (Positions → Bool) → ℕ → Motion → Pair → Bool
pair_passes meets depth w p = passes meets depth (positions w.start p) (positions w.end p)

-- all pairs, in order, that do not pass when each vertex goes from its point by its shift
abbrev pub failing : (Positions → Bool) → Mesh → Shifts → ℕ → List PairName
failing meets m shifts depth =
    map (λ p. p.name) (filter (λ p. not (pair_passes meets depth (moved_by m shifts) p)) (pairs m))

-- the first pair that meets
abbrev pub first_meeting : (Positions → Bool) → Mesh → Placement → Option PairName
first_meeting meets m at = option_map (λ p. p.name) (find (λ p. meets (positions at p)) (pairs m))
