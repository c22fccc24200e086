use Rattle.std.proofs.Common.{arith, ◌≡◌, ◌+ℤ◌, to_z, of_z, Option, Some, None, IsSome}
use Rattle.std.specs.Option.{IfSome}
use Rattle.std.specs.Prelude.{◌↔◌}
use Rattle.std.specs.Int.{w32}
use Rattle.std.proofs.lemmas.Int.{ints}
use Rattle.grid_base.specs.declared.TheConstants.{BOX}
use Rattle.grid_base.specs.declared.grid.Point.{Point}
use Rattle.grid_base.specs.Components.{FitWithin}
use Rattle.grid_base.specs.Triples.{Triple, IsWithin}
use Rattle.grid_base.specs.Points.{position_of}
use Rattle.grid_base.proofs.MeetingLaws.{same_triple}
use Rattle.grid_base.proofs.point_arithmetic.moved.Goals as goal

-- a point with the components of a triple stands there
stands_at : (o : Option Point) (t : Triple) → IfSome o (λ p. (p.x ≡ t.x) × (p.y ≡ t.y) × (p.z ≡ t.z)) → IfSome o (λ r. position_of r ≡ t)
stands_at None t h = tt
stands_at (Some p) t h = same_triple (position_of p) t h.0 h.1 h.2

-- the sizes of three numbers are those of the triple
as_triple : (o : Option Point) (t : Triple) → (IsSome o ↔ FitWithin BOX t.x t.y t.z) → (IsSome o ↔ IsWithin BOX t)
as_triple o t h = (
  λ some. let fits = h.0 some in record { x_fits = fits.x_fits; y_fits = fits.y_fits; z_fits = fits.z_fits },
  λ within. h.1 (record { x_fits = within.x_fits; y_fits = within.y_fits; z_fits = within.z_fits }),
)

pub returns-clause-made : goal.returns-clause-made
returns-clause-made c =
    let x_is : to_z w32 (of_z w32 c.shifted.result) ≡ c.args.p.x +ℤ c.args.s.x = omega (arith, ints) in
    let y_is : to_z w32 (of_z w32 c.shifted-2.result) ≡ c.args.p.y +ℤ c.args.s.y = omega (arith, ints) in
    let z_is : to_z w32 (of_z w32 c.shifted-3.result) ≡ c.args.p.z +ℤ c.args.s.z = omega (arith, ints) in
    stands_at c.new.result _ (simp (x_is, y_is, z_is) at c.new.ensures.made)

pub returns-clause-some : goal.returns-clause-some
returns-clause-some c =
    let x_is : to_z w32 (of_z w32 c.shifted.result) ≡ c.args.p.x +ℤ c.args.s.x = omega (arith, ints) in
    let y_is : to_z w32 (of_z w32 c.shifted-2.result) ≡ c.args.p.y +ℤ c.args.s.y = omega (arith, ints) in
    let z_is : to_z w32 (of_z w32 c.shifted-3.result) ≡ c.args.p.z +ℤ c.args.s.z = omega (arith, ints) in
    as_triple c.new.result _ (simp (x_is, y_is, z_is) at c.new.ensures.some)
