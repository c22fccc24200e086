use Rattle.std.proofs.Common.{rules, refl, SFits}
use Rattle.std.specs.Int.{w128}
use Rattle.std.proofs.lemmas.Bool.{false≢true}
use Rattle.grid_meets.proofs.OnOneLine.{not_on_line, both_before, both_past, meets_within, meets_from_before, meets_from_past}
use Rattle.grid_meets.proofs.Comparisons.{above_zero, not_above_zero, below_zero, not_below_zero, at_least_zero, tests_at_least_zero, test_at_most, test_not_at_most, tests_at_most}
use Rattle.grid_meets.proofs.lines.lines_meet.Goals as goal

pub returns-then-product-gt0 : goal.returns-then-product-gt0
returns-then-product-gt0 c =
    let fits : SFits w128 c.product.result = search rules in
    let height = rw (c.normal-p.ensures.value, c.span-u.ensures.value, c.span-w.ensures.value) at c.product.ensures.value in (
      λ no. absurd (false≢true no),
      λ w. absurd (not_on_line c.args.a c.args.b c.args.c c.args.d c.requires.parallel (above_zero _ _ fits height c.if-product-gt0.true) w),
    )

pub returns-then-k-lt0 : goal.returns-then-k-lt0
returns-then-k-lt0 c =
    let fits : SFits w128 c.product.result = search rules in
    let k_fits : SFits w128 c.product-k.result = search rules in
    let l_fits : SFits w128 c.product-l.result = search rules in
    let height = rw (c.normal-p.ensures.value, c.span-u.ensures.value, c.span-w.ensures.value) at c.product.ensures.value in
    let k_is = rw (c.span-u.ensures.value, c.span-w.ensures.value) at c.product-k.ensures.value in
    let l_is = rw (c.span-u.ensures.value, c.span.ensures.value) at c.product-l.ensures.value in
    let flat = not_above_zero _ _ fits height c.if-product-gt0.false in
    let before = below_zero _ _ k_fits k_is c.if-k-lt0.true in (
      λ yes. meets_from_before c.args.a c.args.b c.args.c c.args.d c.requires.parallel c.requires.long flat before (at_least_zero _ _ l_fits l_is yes),
      λ w. tests_at_least_zero _ _ l_fits l_is (λ below. both_before c.args.a c.args.b c.args.c c.args.d c.requires.long before below w),
    )

pub returns-then-k-size : goal.returns-then-k-size
returns-then-k-size c =
    let fits : SFits w128 c.product.result = search rules in
    let size_fits : SFits w128 c.product-size.result = search rules in
    let k_fits : SFits w128 c.product-k.result = search rules in
    let height = rw (c.normal-p.ensures.value, c.span-u.ensures.value, c.span-w.ensures.value) at c.product.ensures.value in
    let size_is = rw c.span-u.ensures.value at c.product-size.ensures.value in
    let k_is = rw (c.span-u.ensures.value, c.span-w.ensures.value) at c.product-k.ensures.value in
    let flat = not_above_zero _ _ fits height c.if-product-gt0.false in (
      λ yes. meets_within c.args.a c.args.b c.args.c c.args.d c.requires.parallel c.requires.long flat
          (not_below_zero _ _ k_fits k_is c.if-k-lt0.false) (test_at_most _ _ _ _ k_fits size_fits k_is size_is c.if-k-size.true),
      λ w. refl,
    )

pub returns : goal.returns
returns c =
    let fits : SFits w128 c.product.result = search rules in
    let size_fits : SFits w128 c.product-size.result = search rules in
    let k_fits : SFits w128 c.product-k.result = search rules in
    let l_fits : SFits w128 c.product-l.result = search rules in
    let height = rw (c.normal-p.ensures.value, c.span-u.ensures.value, c.span-w.ensures.value) at c.product.ensures.value in
    let size_is = rw c.span-u.ensures.value at c.product-size.ensures.value in
    let k_is = rw (c.span-u.ensures.value, c.span-w.ensures.value) at c.product-k.ensures.value in
    let l_is = rw (c.span-u.ensures.value, c.span.ensures.value) at c.product-l.ensures.value in
    let flat = not_above_zero _ _ fits height c.if-product-gt0.false in
    let behind = test_not_at_most _ _ _ _ k_fits size_fits k_is size_is c.if-k-size.false in (
      λ yes. meets_from_past c.args.a c.args.b c.args.c c.args.d c.requires.parallel c.requires.long flat behind (test_at_most _ _ _ _ l_fits size_fits l_is size_is yes),
      λ w. tests_at_most _ _ _ _ l_fits size_fits l_is size_is (λ past. both_past c.args.a c.args.b c.args.c c.args.d c.requires.long behind past w),
    )
