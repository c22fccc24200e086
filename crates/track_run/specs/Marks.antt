-- Marks in a table, by which most sides and faces are told apart without a question to the mesh.
use Rattle.std.specs.Prelude.{◌≡◌, ℕ, ◌+◌, ◌*◌, ◌/◌, ◌%◌, Bool, true, false, List, slice_get}
use Rattle.std.specs.List.{list_any}
use Rattle.std.specs.Option.{option_map_or}
use Rattle.mesh_base.specs.declared.ids.Corners.{Corners}
use Rattle.mesh_base.specs.Mesh.{Mesh, equal_up_to_rotation}
use Rattle.mesh_base.specs.Sides.{follows}
use Rattle.track_run.specs.Surface.{backward, rises, runs_up_twice}

-- whether a place has a mark; one outside the table has
abbrev pub is_marked : List Bool → ℕ → Bool
is_marked marks place = option_map_or (λ mark. mark) (slice_get marks place) true

-- the place has a mark, and each that had one has it still
pub record HasMark (old : List Bool) (place : ℕ) (new : List Bool) : Type 0 where
  pub put : is_marked new place ≡ true
  pub kept : (k : ℕ) → is_marked old k ≡ true → is_marked new k ≡ true

-- a number for a corner, such that the sums of three differ mostly
abbrev pub corner_number : ℕ → ℕ
corner_number v = (v % 1048573) * (v % 1048573) * (v % 1048573)

-- a number for the lower end of a side
abbrev pub end_number : ℕ → ℕ
end_number v = v * v / 4

-- where a side has its mark, of so many places
abbrev pub side_place : ℕ → ℕ → ℕ → ℕ
side_place places u v = (end_number u + v) % places

-- a side has its mark, and had none if more than one face runs up along it
pub record IsMet (m : Mesh) (places : ℕ) (old : List Bool) (u v : ℕ) (new : List Bool) : Type 0 where
  pub first : runs_up_twice m u v ≡ true → is_marked old (side_place places u v) ≡ false
  pub put : runs_up_twice m u v ≡ true → is_marked new (side_place places u v) ≡ true
  pub kept : (k : ℕ) → is_marked old k ≡ true → is_marked new k ≡ true

-- each side of the corners so
pub record AreMet (m : Mesh) (places : ℕ) (old : List Bool) (c : Corners) (new : List Bool) : Type 0 where
  pub first : (u v : ℕ) → follows c u v ≡ true → runs_up_twice m u v ≡ true → is_marked old (side_place places u v) ≡ false
  pub put : (u v : ℕ) → follows c u v ≡ true → runs_up_twice m u v ≡ true → is_marked new (side_place places u v) ≡ true
  pub kept : (k : ℕ) → is_marked old k ≡ true → is_marked new k ≡ true

-- where corners have their mark, of so many places: where those the other way round have it
abbrev pub face_place : ℕ → Corners → ℕ
face_place places c = (corner_number c.first + corner_number c.second + corner_number c.third) % places

-- corners that rise have a mark where one of the faces has them the other way round
abbrev pub AreOppositesMarked : ℕ → List Corners → List Bool → Type 0
AreOppositesMarked places faces marks =
    (c : Corners) → rises c ≡ true → list_any (λ d. equal_up_to_rotation d (backward c)) faces ≡ true →
    is_marked marks (face_place places c) ≡ true
