-- Pairs by their names, and the pairs that do not pass. `meets` is a test that
-- tells whether five positions meet.
use Rattle.std.specs.Prelude.{ℕ, Bool, not, List, map}
use Rattle.std.specs.Option.{unwrap_or}
use Rattle.std.specs.List.{filter}
use Rattle.std.specs.FinMap as finite
use Rattle.grid_base.specs.declared.Positions.{Positions}
use Rattle.mesh_base.specs.declared.ids.Corners.{Corners}
use Rattle.mesh_base.specs.declared.ids.PairName.{PairName}
use Rattle.mesh_base.specs.Mesh.{Mesh}
use Rattle.mesh_base.specs.Pairs.{Pair, pairs}
use Rattle.mesh_base.specs.Failing.{pair_passes}
use Rattle.mesh_base.specs.Shifts.{Shifts, moved_by}

-- ids that no vertex has
abbrev pub no_corners : Corners
no_corners = record { first = 0; second = 0; third = 0 }

-- the corners of a face, which no vertex is where the face is not live
abbrev pub corners_at : Mesh → ℕ → Corners
corners_at m f = unwrap_or (finite.get m.faces f) no_corners

-- the pair of a name
abbrev pub pair_named : Mesh → PairName → Pair
pair_named m n = record { name = n; corners = corners_at m n.face }

-- the pairs of names
abbrev pub pairs_named : Mesh → List PairName → List Pair
pairs_named m names = map (pair_named m) names

-- the pairs that do not pass, of which `failing` gives the names
abbrev pub failing_pairs : (Positions → Bool) → Mesh → Shifts → ℕ → List Pair
failing_pairs meets m shifts depth =
    filter (λ p. not (pair_passes meets depth (moved_by m shifts) p)) (pairs m)
