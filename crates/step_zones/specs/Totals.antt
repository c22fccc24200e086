-- What is asked of the vertices of a block, all together.
use Rattle.std.specs.Prelude.{ℕ, ◌+◌, ◌==◌, ◌&&◌, ◌||◌, Bool, false, List, map, nat_lt, if◌then◌else◌}
use Rattle.std.specs.List.{fold, filter}
use Rattle.grid_base.specs.declared.Shift.{Shift}
use Rattle.grid_base.specs.Triples.{plus}
use Rattle.grid_base.specs.Points.{displacement_of, shift_by}
use Rattle.mesh_base.specs.declared.steps.ShiftOf.{ShiftOf}
use Rattle.mesh_base.specs.Mesh.{Mesh, is_solid}
use Rattle.mesh_base.specs.Placements.{origin}
use Rattle.mesh_base.specs.Shifts.{Shifts}
use Rattle.step_zones.specs.declared.totals.Total.{Total}
use Rattle.step_zones.specs.Zones.{Labels, divided}
use Rattle.step_zones.specs.Ranks.{label_by}

-- the total of no vertices
abbrev pub no_total : Total
no_total = record { count = 0; sum = origin; solid = false }

-- the total with one vertex more
abbrev pub with_one : Total → Shift → Bool → Total
with_one t by solid =
    record { count = t.count + 1; sum = plus t.sum (displacement_of by); solid = t.solid || solid }

-- the total of those that have the label
abbrev pub total_of : Mesh → Labels → ℕ → Shifts → Total
total_of m at l shifts =
    fold (λ t s. if at s.v == l then with_one t s.by (is_solid m s.v) else t) no_total shifts

-- what a vertex moves by of which this is asked, where its block has this total
abbrev pub total_by : Total → Shift → Shift
total_by t by =
    if nat_lt 1 t.count then shift_by (if t.solid then origin else divided t.sum t.count) else by

-- what each vertex moves by where the blocks are those of the labels
abbrev pub labelled_shift : Mesh → Shifts → Labels → ShiftOf → ShiftOf
labelled_shift m asked at s = record s { by = total_by (total_of m at (at s.v) asked) s.by }

-- the same, where the labels stand in a list
abbrev pub labelled_shifts : Mesh → Shifts → List ℕ → Shifts
labelled_shifts m asked labels = map (labelled_shift m asked (label_by asked labels)) asked

-- the blocks of two or more, in order of their least vertices, where
-- they are those of a list of labels
abbrev pub labelled_blocks : Mesh → Shifts → List ℕ → List (List ℕ)
labelled_blocks m asked labels =
    let at = label_by asked labels in
    let ids = map (λ s. s.v) asked in
    map (λ v. filter (λ u. at u == v) ids)
    (filter (λ v. (at v == v) && nat_lt 1 (total_of m at v asked).count) ids)
