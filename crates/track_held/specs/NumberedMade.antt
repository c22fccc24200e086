-- A tracker that is made of vertices and faces with their ids. What is given are the vertices, the
-- faces, which vertices are solid, and which ids the next vertex and the next face get.
use Rattle.std.specs.Prelude.{◌≡◌, ℕ, List, None}
use Rattle.mesh_base.specs.Valid.{IsValidSurface}
use Rattle.mesh_base.specs.declared.limits.Scale.TheVariants.{Large}
use Rattle.mesh_base.specs.declared.surface.Surface.{Ghosts}
use Rattle.mesh_rows.specs.Rows.{mesh_of_rows}
use Rattle.track_engine.specs.State.{unsaved}
use Rattle.track_held.specs.declared.given.NamedPoint.{NamedPoint}
use Rattle.track_held.specs.declared.given.NamedFace.{NamedFace}
use Rattle.track_held.specs.declared.held.Held.{Held}
use Rattle.track_held.specs.declared.numbered_tracker.NumberedRefusal.{NumberedRefusal}
use Rattle.track_held.specs.Held.{held_state}
use Rattle.track_held.specs.Numbered.{given_rows, numbered_fault, IsRefusal}

module _ (points : List NamedPoint) (faces : List NamedFace) (solids : List ℕ)
    (next_vertex next_face : ℕ) where
  -- it holds their mesh, with the limits of a large one, in which nothing has been done
  abbrev pub HoldsRows : {S : Type 0} {g : Ghosts S} → Held S g → Type 0
  HoldsRows held =
      held_state held
      ≡ unsaved (mesh_of_rows Large (given_rows points faces solids next_vertex next_face))

  -- their mesh is sound, closed and clear
  abbrev pub AreValidRows : Type 0
  AreValidRows =
      IsValidSurface (mesh_of_rows Large (given_rows points faces solids next_vertex next_face))

  -- they have no fault
  abbrev pub AreFaultless : Type 0
  AreFaultless =
      numbered_fault points (given_rows points faces solids next_vertex next_face) ≡ None

  -- a refusal for a fault tells their first
  abbrev pub IsRefusalOf : NumberedRefusal → Type 0
  IsRefusalOf =
      IsRefusal (numbered_fault points (given_rows points faces solids next_vertex next_face))
