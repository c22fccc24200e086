-- Triples of whole numbers: positions, shifts and directions.
use Rattle.std.specs.Prelude.{ℕ, ◌≤◌, ℤ, pos, ◌+ℤ◌, ◌-ℤ◌, ◌*ℤ◌, neg_ℤ, unsigned_abs}
use Rattle.grid_base.specs.declared.vector.Wide.{Wide}
use Rattle.grid_base.specs.Components.{floor_half, toward_zero}

-- three whole numbers, of any size
abbrev pub Triple : Type 0
Triple = Wide

-- each component has at most this size
pub record IsWithin (most : ℕ) (t : Triple) : Type 0 where
  pub x_fits : unsigned_abs t.x ≤ most
  pub y_fits : unsigned_abs t.y ≤ most
  pub z_fits : unsigned_abs t.z ≤ most

-- the sum, component by component
abbrev pub plus : Triple → Triple → Triple
plus a b = record { x = a.x +ℤ b.x; y = a.y +ℤ b.y; z = a.z +ℤ b.z }

-- the difference, component by component
abbrev pub minus : Triple → Triple → Triple
minus a b = record { x = a.x -ℤ b.x; y = a.y -ℤ b.y; z = a.z -ℤ b.z }

-- n times a
abbrev pub times : ℕ → Triple → Triple
times n a = record { x = pos n *ℤ a.x; y = pos n *ℤ a.y; z = pos n *ℤ a.z }

-- the other way
abbrev pub opposite : Triple → Triple
opposite a = record { x = neg_ℤ a.x; y = neg_ℤ a.y; z = neg_ℤ a.z }

-- the dot product
abbrev pub dot : Triple → Triple → ℤ
dot a b = a.x *ℤ b.x +ℤ a.y *ℤ b.y +ℤ a.z *ℤ b.z

-- the cross product
abbrev pub cross : Triple → Triple → Triple
cross a b = record {
  x = a.y *ℤ b.z -ℤ a.z *ℤ b.y;
  y = a.z *ℤ b.x -ℤ a.x *ℤ b.z;
  z = a.x *ℤ b.y -ℤ a.y *ℤ b.x;
}

-- the determinant of b - a, c - a and d - a: six times the signed volume of the tetrahedron a b c d
abbrev pub orientation : Triple → Triple → Triple → Triple → ℤ
orientation a b c d = dot (cross (minus b a) (minus c a)) (minus d a)

-- the midpoint, each component rounded down
abbrev pub floor_mid_of : Triple → Triple → Triple
floor_mid_of a b =
    record { x = floor_half (a.x +ℤ b.x); y = floor_half (a.y +ℤ b.y); z = floor_half (a.z +ℤ b.z) }

-- divided by 2^m, each component rounded toward zero
abbrev pub halved_of : ℕ → Triple → Triple
halved_of m a = record { x = toward_zero a.x m; y = toward_zero a.y m; z = toward_zero a.z m }
