-- Laws of impact zones. `meets` is a test that tells whether five positions meet.
use Rattle.std.specs.Prelude.{◌≡◌, ◌≢◌, ◌↔◌, ℕ, ◌+◌, ◌<◌, Bool, false, List, [], length, map}
use Rattle.std.specs.List.{AllByRecursion}
use Rattle.std.specs.FinMap as finite
use Rattle.grid_base.specs.declared.Positions.{Positions}
use Rattle.grid_base.specs.Points.{displacement_of, shift_by}
use Rattle.mesh_base.specs.Mesh.{Mesh}
use Rattle.mesh_base.specs.Pairs.{Pair}
use Rattle.mesh_base.specs.Shifts.{Shifts}
use Rattle.mesh_base.specs.Failing.{failing}
use Rattle.pair_scan.specs.Named.{failing_pairs}
use Rattle.step_zones.specs.Zones.{Labels, labels, is_in_one, block_shift, zone_shifts}
use Rattle.step_zones.specs.Chains.{Chain}
use Rattle.step_zones.specs.Rounds.{round_hits, round_blocks, AreGiven, EachFailsBefore}

-- the failing pairs are those of which `failing` gives the names
abbrev pub FailingPairsAreNamed : Type 0
FailingPairsAreNamed =
    (meets : Positions → Bool) (m : Mesh) (by : Shifts) (depth : ℕ)
    → failing meets m by depth ≡ map (λ p. p.name) (failing_pairs meets m by depth)

-- one label exactly where a chain leads from one to the other
abbrev pub LabelsAreChains : Type 0
LabelsAreChains = (hits : List Pair) (u v : ℕ) → ((labels hits u ≡ labels hits v) ↔ Chain hits u v)

-- the shift of a block moves by the mean itself
abbrev pub BlocksMoveByTheirMeans : Type 0
BlocksMoveByTheirMeans =
    (m : Mesh) (asked : Shifts) (block : List ℕ)
    → displacement_of (shift_by (block_shift m asked block)) ≡ block_shift m asked block

-- no failing pair lies in one block
abbrev pub FailingPairsLieInTwoBlocks : Type 0
FailingPairsLieInTwoBlocks =
    (meets : Positions → Bool) (m : Mesh) (asked : Shifts) (depth : ℕ) (at : Labels)
    → AreGiven meets m asked
    → AllByRecursion (λ p. is_in_one at p ≡ false)
    (failing_pairs meets m (zone_shifts m asked at) depth)

-- a failing pair leaves fewer blocks
abbrev pub RoundsHaveFewerBlocks : Type 0
RoundsHaveFewerBlocks = (meets : Positions → Bool) (m : Mesh) (asked : Shifts) (depth round : ℕ)
    → AreGiven meets m asked → round_hits meets m asked depth round ≢ []
    → round_blocks meets m asked depth (round + 1) < round_blocks meets m asked depth round

-- a round has a number below the number of live vertices, where a pair fails in each before it
abbrev pub RoundsAreFew : Type 0
RoundsAreFew = (meets : Positions → Bool) (m : Mesh) (asked : Shifts) (depth round : ℕ)
    → AreGiven meets m asked → finite.keys m.points ≢ [] → EachFailsBefore meets m asked depth round
    → round < length (finite.keys m.points)
