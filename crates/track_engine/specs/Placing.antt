-- When vertices can be moved one after another.
use Rattle.std.specs.Prelude.{◌≡◌, true, [], ◌∷◌, if◌then◌else◌}
use Rattle.std.specs.List.{AllByRecursion}
use Rattle.grid_base.specs.declared.TheConstants.{BOX}
use Rattle.grid_base.specs.Triples.{IsWithin}
use Rattle.mesh_base.specs.declared.ShiftOf.{ShiftOf}
use Rattle.mesh_base.specs.Mesh.{Mesh, IsLiveVertex}
use Rattle.mesh_base.specs.Shifts.{Shifts, with_move}
use Rattle.track_engine.specs.Effects.{moves, end_of}

-- each names a live vertex
abbrev pub AreLive : Mesh → Shifts → Type 0
AreLive m shifts = AllByRecursion (λ s. IsLiveVertex m s.v) shifts

-- the mesh after the vertex has moved, if it moves
abbrev pub moved_one : Mesh → ShiftOf → Mesh
moved_one m s = if moves s then with_move m s else m

-- each that moves is live and ends in the box, in the mesh in which those before it have been moved
abbrev pub CanPlace : Mesh → Shifts → Type 0
CanPlace m [] = Unit {0}
CanPlace m (s ∷ shifts) =
    (moves s ≡ true → IsLiveVertex m s.v × IsWithin BOX (end_of m s))
    × CanPlace (moved_one m s) shifts
