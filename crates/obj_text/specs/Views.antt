-- Values of the code as the grammar sees them.
use Rattle.std.specs.Prelude.{◌≡◌, ℕ, List, ◌++◌, map, Result, Ok, Err}
use Rattle.grid_base.specs.Points.{position_of}
use Rattle.mesh_base.specs.declared.MeshLists.{MeshLists}
use Rattle.line_text.specs.declared.fault.TextWhy.{TextWhy}
use Rattle.line_text.specs.declared.fault.TextFault.{TextFault}
use Rattle.line_text.specs.Faults.{◌>>=◌, at_line}
use Rattle.obj_text.specs.Obj.{Lists, corners_of, face_of, fan, fan_after}

-- where the points stand, and the faces
abbrev pub lists_view : MeshLists → Lists
lists_view lists = record { points = map position_of lists.points; faces = lists.faces }

-- what a function returned, seen by view, is what reading gives
abbrev pub GivesWhy : {X Y : Type 0} → (X → Y) → Result X TextWhy → Result Y TextWhy → Type 0
GivesWhy view (Ok x) read = read ≡ Ok (view x)
GivesWhy view (Err why) read = read ≡ Err why

-- faces, and the triangles that more corners add to them
abbrev pub fan_from : ℕ → ℕ → ℕ → ℕ → List (List ℕ) → List (List ℕ) →
    Result (List (List ℕ)) TextFault
fan_from read line a b faces words =
    at_line line (corners_of read words >>= λ corners. Ok (faces ++ fan_after a b corners))

-- faces, and the triangles that a face of these words adds to them
abbrev pub faces_after : ℕ → List (List ℕ) → List (List ℕ) → Result (List (List ℕ)) TextWhy
faces_after read faces words = face_of read words >>= λ corners. Ok (faces ++ fan corners)
