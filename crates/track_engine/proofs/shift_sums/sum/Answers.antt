use Rattle.std.proofs.Common.{arith, ◌≡◌, ◌+ℤ◌, to_z, of_z}
use Rattle.std.specs.Int.{w32}
use Rattle.std.proofs.lemmas.Int.{ints}
use Rattle.track_engine.proofs.shift_sums.sum.Goals as goal
use Rattle.track_engine.proofs.ShiftLemmas.{as_triple, moves_as}

pub returns-clause-made : goal.returns-clause-made
returns-clause-made c =
    let x_is : to_z w32 (of_z w32 c.component_sum.result) ≡ c.args.a.x +ℤ c.args.b.x = omega (arith, ints) in
    let y_is : to_z w32 (of_z w32 c.component_sum-2.result) ≡ c.args.a.y +ℤ c.args.b.y = omega (arith, ints) in
    let z_is : to_z w32 (of_z w32 c.component_sum-3.result) ≡ c.args.a.z +ℤ c.args.b.z = omega (arith, ints) in
    moves_as c.new.result _ (simp (x_is, y_is, z_is) at c.new.ensures.made)

pub returns-clause-some : goal.returns-clause-some
returns-clause-some c =
    let x_is : to_z w32 (of_z w32 c.component_sum.result) ≡ c.args.a.x +ℤ c.args.b.x = omega (arith, ints) in
    let y_is : to_z w32 (of_z w32 c.component_sum-2.result) ≡ c.args.a.y +ℤ c.args.b.y = omega (arith, ints) in
    let z_is : to_z w32 (of_z w32 c.component_sum-3.result) ≡ c.args.a.z +ℤ c.args.b.z = omega (arith, ints) in
    as_triple c.new.result _ (simp (x_is, y_is, z_is) at c.new.ensures.some)
