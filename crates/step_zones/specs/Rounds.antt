-- Zone rounds. `meets` is a test that tells whether five positions meet.
use Rattle.std.specs.Prelude.{◌≡◌, ◌≢◌, ℕ, zero, suc, ◌<◌, ◌≤◌, ◌==◌, ◌&&◌, Bool, false, List, [], ◌++◌, length, IsTrue}
use Rattle.std.specs.List.{find, list_all, range_with_len}
use Rattle.std.specs.FinMap as finite
use Rattle.std.proofs.Common.{Option}
use Rattle.grid_base.specs.declared.Positions.{Positions}
use Rattle.grid_base.specs.SeparationTests.{IsExact}
use Rattle.mesh_base.specs.Mesh.{Mesh, IsSound}
use Rattle.mesh_base.specs.Pairs.{Pair}
use Rattle.mesh_base.specs.Placements.{IsClearMesh}
use Rattle.mesh_base.specs.Shifts.{Shifts, NameLive, end_in_box}
use Rattle.pair_scan.specs.Named.{failing_pairs}
use Rattle.step_zones.specs.Zones.{Labels, labels, zone_shifts, blocks_in}

-- the failing pairs of all rounds before this one
unfoldable pub hits_before : (Positions → Bool) → Mesh → Shifts → ℕ → ℕ → List Pair
hits_before meets m asked depth zero = []
hits_before meets m asked depth (suc round) =
    let hits = hits_before meets m asked depth round in
    hits ++ failing_pairs meets m (zone_shifts m asked (labels hits)) depth

-- the blocks and the shifts of a round, and its failing pairs
unfoldable pub round_labels : (Positions → Bool) → Mesh → Shifts → ℕ → ℕ → Labels
round_labels meets m asked depth round = labels (hits_before meets m asked depth round)

-- what each vertex moves by in the round
unfoldable pub round_shifts : (Positions → Bool) → Mesh → Shifts → ℕ → ℕ → Shifts
round_shifts meets m asked depth round =
    zone_shifts m asked (round_labels meets m asked depth round)

-- the pairs that fail in it
unfoldable pub round_hits : (Positions → Bool) → Mesh → Shifts → ℕ → ℕ → List Pair
round_hits meets m asked depth round =
    failing_pairs meets m (round_shifts meets m asked depth round) depth

-- how many blocks a round has
unfoldable pub round_blocks : (Positions → Bool) → Mesh → Shifts → ℕ → ℕ → ℕ
round_blocks meets m asked depth round = blocks_in m (round_labels meets m asked depth round)

-- whether no pair fails in a round, and no round up to it leaves the box
unfoldable pub serves : (Positions → Bool) → Mesh → Shifts → ℕ → ℕ → Bool
serves meets m asked depth round =
    (length (round_hits meets m asked depth round) == 0)
    && list_all (λ q. end_in_box m (round_shifts meets m asked depth q))
    (range_with_len 0 (suc round))

-- the first round that serves: there are no more rounds than live
-- vertices, and one where none lives
unfoldable pub round_taken : (Positions → Bool) → Mesh → Shifts → ℕ → Option ℕ
round_taken meets m asked depth =
    find (serves meets m asked depth) (range_with_len 0 (suc (length (finite.keys m.points))))

-- ---- laws of rounds
-- the test of a meeting is exact, the mesh is sound and clear, and
-- the shifts name its live vertices
pub record AreGiven (meets : Positions → Bool) (m : Mesh) (asked : Shifts) : Type 0 where
  pub exact : IsExact meets
  pub sound : IsSound m
  pub clear : IsClearMesh m
  pub named : NameLive m asked

-- in each round before this one a pair fails
abbrev pub EachFailsBefore : (Positions → Bool) → Mesh → Shifts → ℕ → ℕ → Type 0
EachFailsBefore meets m asked depth round =
    (q : ℕ) → q < round → round_hits meets m asked depth q ≢ []

-- ---- the round taken, as what holds of it
-- no pair fails in the round, no round up to it leaves the box, and in each before it a pair fails
pub record IsFirstToServe (meets : Positions → Bool) (m : Mesh) (asked : Shifts)
    (depth round : ℕ) : Type 0 where
  pub none_fails : round_hits meets m asked depth round ≡ []
  pub in_box : (q : ℕ) → q ≤ round → IsTrue (end_in_box m (round_shifts meets m asked depth q))
  pub each_fails : EachFailsBefore meets m asked depth round

-- the round leaves the box, and in each before it a pair fails
pub record LeavesTheBox (meets : Positions → Bool) (m : Mesh) (asked : Shifts)
    (depth round : ℕ) : Type 0 where
  pub leaves : end_in_box m (round_shifts meets m asked depth round) ≡ false
  pub each_fails : EachFailsBefore meets m asked depth round

-- some round leaves the box before one serves
abbrev pub SomeRoundLeaves : (Positions → Bool) → Mesh → Shifts → ℕ → Type 0
SomeRoundLeaves meets m asked depth = (round : ℕ) × LeavesTheBox meets m asked depth round
