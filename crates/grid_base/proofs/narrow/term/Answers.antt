use Rattle.std.proofs.Common.{◌≡◌, ◌*ℤ◌, SFits, to_z, of_z, lit<, arith}
use Rattle.std.specs.Int.{w128}
use Rattle.std.proofs.lemmas.Int.{ints, to_z-of_z, fits_signed_mul}
use Rattle.grid_base.proofs.Sizes.{size-product}
use Rattle.grid_base.specs.declared.narrow.TheConstants.{NORMAL_MAX}
use Rattle.grid_base.proofs.narrow.term.Goals as goal

pub returns-clause-value : goal.returns-clause-value
returns-clause-value c =
    let a = c.args.a in
    let b = c.args.b in
    let a_is : to_z w128 (of_z w128 c.from.result) ≡ a = omega (arith, ints) in
    let b_is : to_z w128 (of_z w128 c.from-2.result) ≡ b = omega (arith, ints) in
    let fits : SFits w128 (a *ℤ b) = fits_signed_mul w128 a b NORMAL_MAX NORMAL_MAX c.requires.a_fits c.requires.b_fits (lit< tt) in
    rw (a_is, b_is) (to_z-of_z w128 (a *ℤ b) fits)

pub returns-clause-within : goal.returns-clause-within
returns-clause-within c = rw (returns-clause-value c) (size-product c.args.a c.args.b NORMAL_MAX NORMAL_MAX c.requires.a_fits c.requires.b_fits)
