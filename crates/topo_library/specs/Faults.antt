-- The numbers that tell a caller in C why something is refused, and where.
use Rattle.std.specs.Prelude.{ℕ, nat_lt, if◌then◌else◌}
use Rattle.mesh_base.specs.declared.ShapeFault.{ShapeFault}
use Rattle.mesh_base.specs.declared.ShapeFault.TheVariants.{TooManyVertices, TooManyFaces, NoVertex as NoCorner}
use Rattle.mesh_base.specs.declared.ShapeFault.TheVariants.{Repeated, Doubled, Unbalanced}
use Rattle.mesh_base.specs.declared.UseWhy.{UseWhy}
use Rattle.mesh_base.specs.declared.UseWhy.TheVariants.{NoVertex, ShiftRange, Box, NoField, Solid}
use Rattle.track_held.specs.declared.new_tracker.MakeFault.{MakeFault}
use Rattle.track_held.specs.declared.new_tracker.MakeFault.TheVariants.{Outside, Shape, Meets}
use Rattle.track_held.specs.declared.numbered_tracker.NumberedFault.{NumberedFault}
use Rattle.track_held.specs.declared.numbered_tracker.NumberedFault.TheVariants.{Outside as OutsideBox, Rows}
use Rattle.track_held.specs.declared.numbered_tracker.NumberedFault.TheVariants.{Meets as MeetsPair}
use Rattle.mesh_rows.specs.declared.faults.RowsFault.{RowsFault}
use Rattle.mesh_rows.specs.declared.faults.RowsFault.TheVariants.{TooManyVertices as ManyVertices}
use Rattle.mesh_rows.specs.declared.faults.RowsFault.TheVariants.{TooManyFaces as ManyFaces}
use Rattle.mesh_rows.specs.declared.faults.RowsFault.TheVariants.{NoVertex as NoLive, Repeated as Twice}
use Rattle.mesh_rows.specs.declared.faults.RowsFault.TheVariants.{Doubled as Equal}
use Rattle.mesh_rows.specs.declared.faults.RowsFault.TheVariants.{Unbalanced as Uneven, NextVertex, NextFace}
use Rattle.mesh_rows.specs.declared.faults.RowsFault.TheVariants.{VertexOrder, FaceOrder, NotSolid}
use Rattle.track_held.specs.declared.band_table.TableFault.{TableFault}
use Rattle.track_held.specs.declared.band_table.TableFault.TheVariants.{NoSide, Miscounted, NoBand}
use Rattle.topo_library.specs.declared.fault.TopoFault.{TopoFault}

-- a reason and its place
abbrev fault_at : ℕ → ℕ → ℕ → ℕ → TopoFault
fault_at why a b c = record { why = why; a = a; b = b; c = c }

-- a count, or the greatest number that is told
abbrev pub capped_number : ℕ → ℕ
capped_number count = if nat_lt count 4294967295 then count else 4294967295

-- what is wrong with the shape of points and faces
abbrev pub shape_place : ShapeFault → TopoFault
shape_place (TooManyVertices count) = fault_at 11 (capped_number count) 0 0
shape_place (TooManyFaces count) = fault_at 12 (capped_number count) 0 0
shape_place (NoCorner face corner) = fault_at 13 face corner 0
shape_place (Repeated face) = fault_at 14 face 0 0
shape_place (Doubled first second) = fault_at 15 first second 0
shape_place (Unbalanced from to) = fault_at 16 from to 0

-- what is wrong with points and faces of which no tracker is made: a point outside the box, by its
-- number; a fault of shape; or an edge and a face that meet
abbrev pub make_place : MakeFault → TopoFault
make_place (Outside number) = fault_at 10 number 0 0
make_place (Shape fault) = shape_place fault
make_place (Meets pair) = fault_at 17 pair.a pair.b pair.face

-- what is wrong with rows: of a face and of a vertex that is known by its id, the same as above
abbrev pub rows_place : RowsFault → TopoFault
rows_place (ManyVertices count) = fault_at 11 (capped_number count) 0 0
rows_place (ManyFaces count) = fault_at 12 (capped_number count) 0 0
rows_place (NoLive face corner) = fault_at 13 face corner 0
rows_place (Twice face) = fault_at 14 face 0 0
rows_place (Equal first second) = fault_at 15 first second 0
rows_place (Uneven from to) = fault_at 16 from to 0
rows_place (NextVertex id) = fault_at 18 id 0 0
rows_place (NextFace id) = fault_at 19 id 0 0
rows_place (VertexOrder place) = fault_at 20 place 0 0
rows_place (FaceOrder place) = fault_at 21 place 0 0
rows_place (NotSolid v) = fault_at 22 v 0 0

-- what is wrong with vertices and faces with their ids, of which no tracker is made
abbrev pub numbered_place : NumberedFault → TopoFault
numbered_place (OutsideBox number) = fault_at 10 number 0 0
numbered_place (Rows fault) = rows_place fault
numbered_place (MeetsPair pair) = fault_at 17 pair.a pair.b pair.face

-- what is wrong with cells and their bands: of a band that is none, its place, from 0
abbrev pub table_place : TableFault → TopoFault
table_place NoSide = fault_at 23 0 0 0
table_place Miscounted = fault_at 24 0 0 0
table_place (NoBand place) = fault_at 25 (capped_number place) 0 0

-- why a directive is refused, and for which vertex
abbrev pub use_place : UseWhy → TopoFault
use_place (NoVertex v) = fault_at 1 v 0 0
use_place (ShiftRange v) = fault_at 2 v 0 0
use_place (Box v) = fault_at 3 v 0 0
use_place NoField = fault_at 4 0 0 0
use_place (Solid v) = fault_at 5 v 0 0
