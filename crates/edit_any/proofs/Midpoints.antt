-- The middle of two points, each component rounded down, is a point.
use Rattle.std.proofs.Common.{◌≡◌, Bool, false, if◌then◌else◌, ℕ, ◌*◌, ◌≤◌, ℤ, pos, negsuc, ◌+ℤ◌, unsigned_abs, ◌∙◌, arith}
use Rattle.std.proofs.Math.Nat.{div-mul-le_self}
use Rattle.std.proofs.lemmas.Int.{ints}
use Rattle.grid_base.specs.declared.TheConstants.{BOX}
use Rattle.grid_base.specs.declared.Point.{Point}
use Rattle.grid_base.specs.Points.{position_of}
use Rattle.grid_base.specs.Components.{floor_half}
use Rattle.grid_base.specs.Triples.{Triple, IsWithin, floor_mid_of}
use Rattle.grid_base.proofs.PointLaws.{position_of-point_at}
use Rattle.mesh_base.specs.Mesh.{Mesh, is_solid}
use Rattle.mesh_base.specs.Placements.{rest_positions, point_of}
use Rattle.mesh_base.proofs.PointOf.{position_of-point_of}
use Rattle.edit_base.specs.Edges.{floor_mid}
use Rattle.edit_base.proofs.ReasonLaws.{first_false, second_false}
use Rattle.edit_collapse.specs.Collapse.{collapse_point, has_solid_end}

-- half of what is at most twice the box fits, rounded down
halved : (z : ℤ) → unsigned_abs z ≤ 2 * BOX → unsigned_abs (floor_half z) ≤ BOX
halved (pos n) h = let q = div-mul-le_self n 2 in omega (arith, q, h)
halved (negsuc n) h = let q = div-mul-le_self n 2 in omega (arith, q, h)

half_fits : (a b : ℤ) → unsigned_abs a ≤ BOX → unsigned_abs b ≤ BOX → unsigned_abs (floor_half (a +ℤ b)) ≤ BOX
half_fits a b h k = halved (a +ℤ b) (omega (arith, ints, h, k))

mid_fits : (p q : Triple) → IsWithin BOX p → IsWithin BOX q → IsWithin BOX (floor_mid_of p q)
mid_fits p q h k = record { x_fits = half_fits p.x q.x h.x_fits k.x_fits; y_fits = half_fits p.y q.y h.y_fits k.y_fits; z_fits = half_fits p.z q.z h.z_fits k.z_fits }

point_fits : (p : Point) → IsWithin BOX (position_of p)
point_fits p = record { x_fits = p.in_box.x_fits; y_fits = p.in_box.y_fits; z_fits = p.in_box.z_fits }

-- the middle of two vertices
pub mid_is : (m : Mesh) (u v : ℕ) → position_of (floor_mid (point_of m u) (point_of m v)) ≡ floor_mid_of (rest_positions m u) (rest_positions m v)
mid_is m u v =
    position_of-point_at (floor_mid_of (position_of (point_of m u)) (position_of (point_of m v))) (mid_fits _ _ (point_fits (point_of m u)) (point_fits (point_of m v)))
    ∙ (λ i. floor_mid_of (position_of-point_of m u i) (position_of-point_of m v i))

-- where a collapse ends, by whether the first end is solid and whether the second is
abbrev point_by : Mesh → ℕ → ℕ → Bool → Bool → Point
point_by m a b s t = if s then point_of m a else (if t then point_of m b else floor_mid (point_of m a) (point_of m b))

-- it is the middle, where neither is
pub collapse_mid_is : (m : Mesh) (a b : ℕ) → has_solid_end m a b ≡ false → position_of (collapse_point m a b) ≡ floor_mid_of (rest_positions m a) (rest_positions m b)
collapse_mid_is m a b h =
    (λ i. position_of (point_by m a b (first_false (is_solid m a) (is_solid m b) h i) (second_false (is_solid m a) (is_solid m b) h i)))
    ∙ mid_is m a b
