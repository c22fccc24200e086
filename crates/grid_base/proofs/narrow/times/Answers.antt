use Rattle.std.proofs.Common.{◌≡◌, ◌*ℤ◌, ℤ, ◌≤◌, unsigned_abs, SFits, to_z, of_z, lit<, arith}
use Rattle.std.specs.Int.{w64, w128}
use Rattle.std.proofs.lemmas.Int.{ints, to_z-of_z, fits_signed_mul}
use Rattle.grid_base.proofs.Sizes.{size-product}
use Rattle.grid_base.specs.declared.narrow.TheConstants.{SPAN_MAX}
use Rattle.grid_base.proofs.narrow.times.Goals as goal

-- a component fits 64 bits
kept : (a : ℤ) → SFits w128 a → unsigned_abs a ≤ SPAN_MAX → to_z w64 (of_z w64 (to_z w128 (of_z w128 a))) ≡ a
kept a fits small = omega (arith, ints)

fitting : (a b : ℤ) → unsigned_abs a ≤ SPAN_MAX → unsigned_abs b ≤ SPAN_MAX → SFits w64 (a *ℤ b)
fitting a b p q = fits_signed_mul w64 a b SPAN_MAX SPAN_MAX p q (lit< tt)

pub overflow_mul-result : goal.overflow_mul-result
overflow_mul-result c = rw (kept c.args.a c.ranges.a c.requires.a_fits, kept c.args.b c.ranges.b c.requires.b_fits) (fitting c.args.a c.args.b c.requires.a_fits c.requires.b_fits)

pub returns-clause-value : goal.returns-clause-value
returns-clause-value c = rw (kept c.args.a c.ranges.a c.requires.a_fits, kept c.args.b c.ranges.b c.requires.b_fits) (to_z-of_z w64 (c.args.a *ℤ c.args.b) (fitting c.args.a c.args.b c.requires.a_fits c.requires.b_fits))

pub returns-clause-within : goal.returns-clause-within
returns-clause-within c = rw (returns-clause-value c) (size-product c.args.a c.args.b SPAN_MAX SPAN_MAX c.requires.a_fits c.requires.b_fits)
