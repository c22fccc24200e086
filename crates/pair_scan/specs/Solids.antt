-- Shifts under which solid vertices stay where they are.
use Rattle.std.specs.Prelude.{◌≡◌, ℕ, IsTrue}
use Rattle.mesh_base.specs.Mesh.{Mesh, is_solid}
use Rattle.mesh_base.specs.Placements.{origin}
use Rattle.mesh_base.specs.Shifts.{Shifts, shift_at}

-- no solid vertex has a shift
abbrev pub SolidsRest : Mesh → Shifts → Type 0
SolidsRest m shifts = (v : ℕ) → IsTrue (is_solid m v) → shift_at shifts v ≡ origin

-- a solid vertex that has no shift before has none after
abbrev pub SolidsStay : Mesh → Shifts → Shifts → Type 0
SolidsStay m before after =
    (v : ℕ) → IsTrue (is_solid m v) → shift_at before v ≡ origin → shift_at after v ≡ origin
