-- Blocks of vertices, and what they move by. Vertices are in one block where they have one label.
use Rattle.std.specs.Prelude.{ℕ, ◌==◌, ◌&&◌, Bool, List, map, length, min, nat_lt, pos, int_div, if◌then◌else◌}
use Rattle.std.specs.List.{filter, fold, count_by, list_any, list_all}
use Rattle.std.specs.FinMap as finite
use Rattle.grid_base.specs.declared.Shift.{Shift}
use Rattle.grid_base.specs.Triples.{Triple, plus}
use Rattle.grid_base.specs.Points.{shift_by}
use Rattle.mesh_base.specs.declared.steps.ShiftOf.{ShiftOf}
use Rattle.mesh_base.specs.Mesh.{Mesh, is_solid}
use Rattle.mesh_base.specs.Pairs.{Pair, five_ids}
use Rattle.mesh_base.specs.Placements.{origin}
use Rattle.mesh_base.specs.Shifts.{Shifts, shift_at}

-- the label of each vertex
abbrev pub Labels : Type 0
Labels = ℕ → ℕ

-- each vertex by itself
abbrev pub alone : Labels
alone v = v

-- the least label of the five vertices
abbrev pub least_label : Labels → Pair → ℕ
least_label at p =
    min (at p.name.a)
    (min (at p.name.b) (min (at p.corners.first) (min (at p.corners.second) (at p.corners.third))))

-- whether one of the five has the label
abbrev pub is_touched : Labels → Pair → ℕ → Bool
is_touched at p l = list_any (λ u. at u == l) (five_ids p)

-- the blocks of the five joined: each vertex of them gets the least label
abbrev pub joined : Labels → Pair → Labels
joined at p v = if is_touched at p (at v) then least_label at p else at v

-- the blocks that the pairs join
abbrev pub labels : List Pair → Labels
labels hits = fold joined alone hits

-- whether the five are in one block
abbrev pub is_in_one : Labels → Pair → Bool
is_in_one at p = list_all (λ u. at u == at p.name.a) (five_ids p)

-- how many blocks there are: one vertex of each has its own id as label
abbrev pub blocks_in : Mesh → Labels → ℕ
blocks_in m at = count_by (λ v. at v == v) (finite.keys m.points)

-- the live vertices with a label
abbrev pub block_at : Mesh → Labels → ℕ → List ℕ
block_at m at l = filter (λ u. at u == l) (finite.keys m.points)

-- the least vertices of the blocks of two or more
abbrev pub heads : Mesh → Labels → List ℕ
heads m at = filter (λ v. (at v == v) && nat_lt 1 (length (block_at m at v))) (finite.keys m.points)

-- the blocks of two or more, in order of their least vertices
abbrev pub blocks : Mesh → Labels → List (List ℕ)
blocks m at = map (block_at m at) (heads m at)

-- each component divided by n, rounded toward zero
abbrev pub divided : Triple → ℕ → Triple
divided t n = record { x = int_div t.x (pos n); y = int_div t.y (pos n); z = int_div t.z (pos n) }

-- the mean of the asked shifts of a block, each component rounded toward zero
abbrev pub mean_shift : Shifts → List ℕ → Triple
mean_shift asked block =
    divided (fold (λ sum v. plus sum (shift_at asked v)) origin block) (length block)

-- what a block of two or more moves by: nothing, where it holds a solid vertex
abbrev pub block_shift : Mesh → Shifts → List ℕ → Triple
block_shift m asked block = if list_any (is_solid m) block then origin else mean_shift asked block

-- what a vertex moves by
abbrev pub zone_by : Mesh → Shifts → Labels → ShiftOf → Shift
zone_by m asked at s =
    let block = block_at m at (at s.v) in
    if nat_lt 1 (length block) then shift_by (block_shift m asked block) else s.by

-- a vertex with what it moves by
abbrev pub zone_shift : Mesh → Shifts → Labels → ShiftOf → ShiftOf
zone_shift m asked at s = record s { by = zone_by m asked at s }

-- the shifts where the blocks are those of the labels
abbrev pub zone_shifts : Mesh → Shifts → Labels → Shifts
zone_shifts m asked at = map (zone_shift m asked at) asked
