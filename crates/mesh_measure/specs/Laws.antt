-- Where a volume stays the same.
use Rattle.std.specs.Prelude.{◌≡◌, ℕ, true}
use Rattle.grid_base.specs.Triples.{Triple, plus}
use Rattle.mesh_base.specs.Mesh.{Mesh, IsLiveVertex, IsSound}
use Rattle.mesh_base.specs.Sides.{IsClosed}
use Rattle.mesh_base.specs.Placements.{Placement}
use Rattle.mesh_base.specs.Shifts.{Shifts, shift_at, with_moves, end_in_box, NameOnce}
use Rattle.mesh_measure.specs.Volume.{volume6, volume6_at}

-- the volume is the same from every origin: where the vertices stand otherwise,
-- all by one shift, it is what it was
abbrev pub HasNoOrigin : Mesh → Type 0
HasNoOrigin m = (at : Placement) (t : Triple) → volume6_at (λ v. plus (at v) t) m ≡ volume6_at at m

-- the moves name live vertices, none twice, move each live vertex by this shift, and end in the box
pub record MoveAllBy (m : Mesh) (moves : Shifts) (t : Triple) : Type 0 where
  pub once : NameOnce m moves
  pub inside : end_in_box m moves ≡ true
  pub same : (v : ℕ) → IsLiveVertex m v → shift_at moves v ≡ t

-- A sound and closed mesh of which all points move by one shift has the volume that it had.
abbrev pub VolumeStaysWhereAllMove : Type 0
VolumeStaysWhereAllMove = (m : Mesh) (moves : Shifts) (t : Triple) → IsSound m → IsClosed m →
    MoveAllBy m moves t → volume6 (with_moves m moves) ≡ volume6 m
