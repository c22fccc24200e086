use Rattle.std.proofs.Common.{◌≡◌, ℤ, ◌*◌, ◌≤◌, ◌-ℤ◌, unsigned_abs, SFits, to_z, of_z, ◌∙◌, arith}
use Rattle.std.specs.Int.{w64, w128}
use Rattle.std.proofs.lemmas.Int.{ints, to_z-of_z}
use Rattle.grid_base.proofs.Sizes.{same_difference, size-difference}
use Rattle.grid_base.specs.declared.narrow.TheConstants.{SPAN_MAX}
use Rattle.grid_base.proofs.narrow.area.Goals as goal

-- the difference of two products fits 64 bits
fitting : (p q : ℤ) → unsigned_abs p ≤ SPAN_MAX * SPAN_MAX → unsigned_abs q ≤ SPAN_MAX * SPAN_MAX → SFits w64 (to_z w64 (of_z w64 p) -ℤ to_z w64 (of_z w64 q))
fitting p q h k = omega (arith, ints)

kept : (p q r : ℤ) → unsigned_abs p ≤ SPAN_MAX * SPAN_MAX → unsigned_abs q ≤ SPAN_MAX * SPAN_MAX → r ≡ to_z w64 (of_z w64 (to_z w64 (of_z w64 p) -ℤ to_z w64 (of_z w64 q))) → to_z w128 (of_z w128 r) ≡ p -ℤ q
kept p q r h k e = omega (arith, ints)

pub overflow_sub-times : goal.overflow_sub-times
overflow_sub-times c = fitting c.times.result c.times-2.result c.times.ensures.within c.times-2.ensures.within

pub returns-clause-value : goal.returns-clause-value
returns-clause-value c =
    let p = c.times.result in
    let q = c.times-2.result in
    let a_fits : SFits w128 c.args.a = c.ranges.a in
    let b_fits : SFits w128 c.args.b = c.ranges.b in
    let c_fits : SFits w128 c.args.c = c.ranges.c in
    let d_fits : SFits w128 c.args.d = c.ranges.d in
    kept p q c.from.result c.times.ensures.within c.times-2.ensures.within c.from.ensures ∙ same_difference p q _ _ (simp to_z-of_z at c.times.ensures.value) (simp to_z-of_z at c.times-2.ensures.value)

pub returns-clause-within : goal.returns-clause-within
returns-clause-within c =
    let p = c.times.result in
    let q = c.times-2.result in
    rw (kept p q c.from.result c.times.ensures.within c.times-2.ensures.within c.from.ensures) (size-difference p q (SPAN_MAX * SPAN_MAX) (SPAN_MAX * SPAN_MAX) c.times.ensures.within c.times-2.ensures.within)
