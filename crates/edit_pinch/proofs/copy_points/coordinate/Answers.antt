use Rattle.std.proofs.Common.{◌≡◌, ◌*◌, ℕ, ℤ, pos, int_div, to_z, of_z, SFits, ap, ◌∙◌}
use Rattle.std.specs.Int.{w128}
use Rattle.std.proofs.lemmas.Int.{to_z-of_z}
use Rattle.edit_pinch.proofs.Casts.{sum_fits, cast_fits, sum_held}
use Rattle.edit_pinch.proofs.copy_points.coordinate.Goals as goal

-- the eighth is that of the sum
eighth_is : (sum eighth : ℤ) (n : ℕ) → SFits w128 sum → eighth ≡ int_div (to_z w128 (of_z w128 sum)) (pos n) → eighth ≡ int_div sum (pos n)
eighth_is sum eighth n fits is = is ∙ ap (λ z. int_div z (pos n)) (to_z-of_z w128 sum fits)

pub overflow_add-result : goal.overflow_add-result
overflow_add-result c =
    let n = 8 * c.args.count in
    sum_fits c.args.here (int_div c.args.sum (pos n)) c.from.result c.eighth.result c.ranges.here c.from.ensures (eighth_is c.args.sum c.eighth.result n c.ranges.sum c.eighth.ensures) c.requires

pub overflow_cast-result : goal.overflow_cast-result
overflow_cast-result c =
    let n = 8 * c.args.count in
    cast_fits c.args.here (int_div c.args.sum (pos n)) c.from.result c.eighth.result c.ranges.here c.from.ensures (eighth_is c.args.sum c.eighth.result n c.ranges.sum c.eighth.ensures) c.requires

pub returns : goal.returns
returns c =
    let n = 8 * c.args.count in
    sum_held c.args.here (int_div c.args.sum (pos n)) c.from.result c.eighth.result c.ranges.here c.from.ensures (eighth_is c.args.sum c.eighth.result n c.ranges.sum c.eighth.ensures) c.requires
