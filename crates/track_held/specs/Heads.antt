-- A log that a caller begins at the mesh as it is, and ends.
use Rattle.std.specs.Prelude.{◌≡◌, ℕ, ◌+◌, ◌==◌, ◌&&◌, Bool, true, if◌then◌else◌, List, [], ◌∷◌, ◌++◌, map}
use Rattle.std.specs.FinMap as finite
use Rattle.grid_base.specs.declared.Point.{Point}
use Rattle.mesh_base.specs.declared.limits.Scale.{Scale}
use Rattle.mesh_base.specs.declared.limits.Scale.TheVariants.{Large}
use Rattle.mesh_base.specs.Given.{Faces, mesh_under}
use Rattle.mesh_base.specs.Limits.{limits_of}
use Rattle.mesh_base.specs.Mesh.{Mesh, IsSound}
use Rattle.mesh_rows.specs.Making.{with_solids}
use Rattle.obj_text.specs.Laws.{renumbered}
use Rattle.log_text.specs.declared.TheConstants.{VERSION, IDS_VERSION}
use Rattle.log_text.specs.declared.LogLine.{LogLine}
use Rattle.log_text.specs.declared.LogLine.TheVariants.{First, Vertices, Faces as FacesLine, Solid, End}
use Rattle.track_engine.specs.State.{State}
use Rattle.track_engine.specs.Effects.{Effect, Proceeds, mesh_line}
use Rattle.track_held.specs.Reading.{solid_vertices}

-- whether the ids of vertices and of faces run from 1 on, up to the next one, with none left out, as
-- those of a mesh that is read from a file
abbrev pub has_dense_ids : Mesh → Bool
has_dense_ids m =
    (m.next_vertex == finite.len m.points + 1) && (m.next_face == finite.len m.faces + 1)

-- so they are in each mesh that is made of points and faces, whichever vertices are solid
abbrev pub MeshesAreMadeDense : Type 0
MeshesAreMadeDense =
    (scale : Scale) (points : List Point) (faces : Faces) (solids : List ℕ) →
    has_dense_ids (with_solids (mesh_under scale points faces) solids) ≡ true

-- the mesh with no vertex solid, as a file gives it
abbrev pub unmarked : Mesh → Mesh
unmarked m = record m { solid = finite.empty }

-- the mesh that is read from the text of a mesh, within the limits of that mesh
abbrev pub as_read : Mesh → Mesh
as_read m = record (renumbered Large m) { limits = m.limits }

-- and then the mesh is the one that is read from its text, but for its solid vertices
abbrev pub DenseMeshesAreRead : Type 0
DenseMeshesAreRead =
    (m : Mesh) → IsSound m → m.limits ≡ limits_of Large → has_dense_ids m ≡ true →
    renumbered Large m ≡ unmarked m

-- a line for each of these vertices, that it is solid
abbrev pub solid_lines : List ℕ → List LogLine
solid_lines vertices = map (λ v. Solid v) vertices

-- the version of a log of a mesh: where ids are not dense, that of logs which tell them
abbrev pub head_version : Mesh → ℕ
head_version m = if has_dense_ids m then VERSION else IDS_VERSION

-- the line that tells the ids of all live vertices, and the one that the next vertex gets
abbrev pub vertices_line : Mesh → LogLine
vertices_line m = Vertices (record { next = m.next_vertex; ids = finite.keys m.points })

-- the same of faces
abbrev pub faces_line : Mesh → LogLine
faces_line m = FacesLine (record { next = m.next_face; ids = finite.keys m.faces })

-- the lines that tell which ids there are: none, where they are dense
abbrev pub id_lines : Mesh → List LogLine
id_lines m = if has_dense_ids m then [] else vertices_line m ∷ faces_line m ∷ []

-- the first lines of a log of a mesh: that of the version, that of the mesh, which has the number
-- 0, those of its ids, where they are not dense, and one for each solid vertex, by rising id
abbrev pub head_lines : Mesh → List LogLine
head_lines m =
    First (head_version m) ∷ mesh_line 0 m ∷ (id_lines m ++ solid_lines (solid_vertices m))

-- in a log that begins, mesh 0 is saved
abbrev pub begun : State → State
begun s = record s { saved = 1 }

-- a log begins: its first lines are told
abbrev pub begin_effect : State → Effect
begin_effect s = Proceeds (head_lines s.mesh) (begun s)

-- it ends: its last line is told, and nothing changes
abbrev pub end_effect : State → Effect
end_effect s = Proceeds (End ∷ []) s
