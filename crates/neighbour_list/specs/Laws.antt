-- Why a list serves.
use Rattle.std.specs.Prelude.{ℕ, ◌≡◌, false, List}
use Rattle.std.specs.List.{All, Contains}
use Rattle.std.specs.FinMap as finite
use Rattle.grid_base.specs.Separation.{Passes}
use Rattle.grid_base.specs.Triples.{Triple, plus}
use Rattle.mesh_base.specs.Mesh.{Mesh}
use Rattle.mesh_base.specs.Pairs.{Pair, five_ids}
use Rattle.mesh_base.specs.Placements.{Motion, Placement, positions}
use Rattle.mesh_base.specs.Shifts.{Shifts, NameOnce, with_moves}
use Rattle.neighbour_list.specs.declared.neighbour_list.NeighbourList.{NeighbourList}
use Rattle.neighbour_list.specs.Drift.{DriftAlike}
use Rattle.neighbour_list.specs.Listed.{IsListOf, is_near_at}

-- a pair that is not near at reference points passes the written test to each depth, where its
-- vertices are among some that drift alike up to the skin, at the start and at the end
abbrev pub PairsNotNearPass : Type 0
PairsNotNearPass = (skin depth : ℕ) (at : Placement) (w : Motion) (vs : List ℕ) (p : Pair) →
    All (Contains vs) (five_ids p) → is_near_at skin at p ≡ false →
    DriftAlike skin at w.start vs → DriftAlike skin at w.end vs →
    Passes depth (positions w.start p) (positions w.end p)

-- vertices that drift alike up to the skin do so after a shift that all have in common
abbrev pub CommonShiftsUseNoSkin : Type 0
CommonShiftsUseNoSkin = (skin : ℕ) (at now : Placement) (by : Triple) (vs : List ℕ) →
    DriftAlike skin at now vs → DriftAlike skin at (λ v. plus (now v) by) vs

-- a list of a mesh is one of each mesh with the same faces and the same live vertices
abbrev pub ListsAreOfMeshesAlike : Type 0
ListsAreOfMeshesAlike = (m n : Mesh) (l : NeighbourList) → n.faces ≡ m.faces →
    finite.keys n.points ≡ finite.keys m.points → IsListOf m l → IsListOf n l

-- so it stays one where vertices are moved
abbrev pub ListsStayWhereVerticesMove : Type 0
ListsStayWhereVerticesMove = (m : Mesh) (moves : Shifts) (l : NeighbourList) →
    NameOnce m moves → IsListOf m l → IsListOf (with_moves m moves) l
