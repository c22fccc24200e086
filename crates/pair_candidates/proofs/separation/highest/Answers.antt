use Rattle.std.proofs.Common.{pos, ◌<ℤ◌, ◌≤ℤ◌, arith}
use Rattle.std.proofs.lemmas.Int.{ints, to_z-of_z}
use Rattle.std.specs.Int.{w128}
use Rattle.pair_candidates.proofs.Beyond.{extent_fits, times_up, times_down}
use Rattle.pair_candidates.proofs.separation.highest.Goals as goal

pub returns-then-n-lt0-clause-greatest : goal.returns-then-n-lt0-clause-greatest
returns-then-n-lt0-clause-greatest c =
    let less : c.args.n <ℤ pos 0 = omega (arith, ints) in
    λ p l h. rw (to_z-of_z w128 c.args.low (extent_fits c.args.low c.requires.low_fits)) (times_down c.args.n c.args.low p less l)

pub returns-else-n-lt0-clause-greatest : goal.returns-else-n-lt0-clause-greatest
returns-else-n-lt0-clause-greatest c =
    let most : pos 0 ≤ℤ c.args.n = omega (arith, ints) in
    λ p l h. rw (to_z-of_z w128 c.args.high (extent_fits c.args.high c.requires.high_fits)) (times_up c.args.n p c.args.high most h)
