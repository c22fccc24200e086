-- All pairs that meet where the vertices of a mesh stand.
use Rattle.std.specs.Prelude.{◌↔◌, List, map}
use Rattle.std.specs.List.{filter, Contains}
use Rattle.std.specs.List.Sorted.{IsStrictlySortedBy}
use Rattle.grid_decided.specs.Decided.{meets_exactly}
use Rattle.mesh_base.specs.declared.ids.PairName.{PairName}
use Rattle.mesh_base.specs.Mesh.{Mesh}
use Rattle.mesh_base.specs.Pairs.{pairs, name_cmp}
use Rattle.mesh_base.specs.Placements.{rest_positions, positions}
use Rattle.pair_scan.specs.Scan.{IsMeeting}

-- the names of all pairs that meet, in order of the edge and then of the face
abbrev pub meeting_pairs : Mesh → List PairName
meeting_pairs m =
    map (λ p. p.name) (filter (λ p. meets_exactly (positions (rest_positions m) p)) (pairs m))

-- the list has the name of each pair that meets, once, and no other, in order
pub record AreMeeting (m : Mesh) (names : List PairName) : Type 0 where
  pub each : (n : PairName) → Contains names n ↔ IsMeeting m n
  pub rising : IsStrictlySortedBy name_cmp names
