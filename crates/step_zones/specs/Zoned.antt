-- What a search for a round gives.
use Rattle.std.specs.Prelude.{◌≢◌, ℕ, ◌<◌, Bool, [], length}
use Rattle.std.specs.Option.{option_map}
use Rattle.std.specs.FinMap as finite
use Rattle.std.proofs.Common.{Option, Some, None}
use Rattle.grid_base.specs.declared.Positions.{Positions}
use Rattle.mesh_base.specs.Mesh.{Mesh}
use Rattle.mesh_base.specs.Shifts.{Shifts}
use Rattle.step_zones.specs.declared.found.Zoned.{Zoned}
use Rattle.step_zones.specs.Zones.{blocks}
use Rattle.step_zones.specs.Rounds.{round_labels, round_shifts, round_taken, IsFirstToServe, SomeRoundLeaves}

-- a round: its number, its shifts, and its blocks of two or more
abbrev pub zoned_at : (Positions → Bool) → Mesh → Shifts → ℕ → ℕ → Zoned
zoned_at meets m asked depth round = record {
  rounds = round;
  taken = round_shifts meets m asked depth round;
  blocks = blocks m (round_labels meets m asked depth round);
}

-- the first round that serves
abbrev pub zoned_taken : (Positions → Bool) → Mesh → Shifts → ℕ → Option Zoned
zoned_taken meets m asked depth =
    option_map (zoned_at meets m asked depth) (round_taken meets m asked depth)

-- none: a round leaves the box before one serves; a round: it serves, and none before it does
abbrev pub ServesFirst : (Positions → Bool) → Mesh → Shifts → ℕ → Option Zoned → Type 0
ServesFirst meets m asked depth None = SomeRoundLeaves meets m asked depth
ServesFirst meets m asked depth (Some z) = IsFirstToServe meets m asked depth z.rounds

-- where a vertex lives, the number of the round is below the number of live vertices
abbrev pub IsBelowVertices : Mesh → Zoned → Type 0
IsBelowVertices m z = finite.keys m.points ≢ [] → z.rounds < length (finite.keys m.points)
