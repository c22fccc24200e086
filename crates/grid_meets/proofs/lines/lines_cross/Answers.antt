use Rattle.std.proofs.Common.{rules, refl, SFits}
use Rattle.std.specs.Int.{w128}
use Rattle.std.proofs.lemmas.Bool.{false≢true}
use Rattle.grid_meets.proofs.Segments.{not_before_a, not_past_b, not_before_c, not_past_d, crossing_inside}
use Rattle.grid_meets.proofs.Comparisons.{below_zero, not_below_zero, test_less, test_not_less, test_at_most, tests_at_most}
use Rattle.grid_meets.proofs.lines.lines_cross.Goals as goal

pub returns-then-s-lt0 : goal.returns-then-s-lt0
returns-then-s-lt0 c =
    let size_fits : SFits w128 c.product-size.result = search rules in
    let s_fits : SFits w128 c.product-s.result = search rules in
    let t_fits : SFits w128 c.product-t.result = search rules in
    let size_is = rw (c.normal-n.ensures.value, c.span-u.ensures.value, c.span-v.ensures.value) at c.product-size.ensures.value in
    let s_is = rw (c.normal.ensures.value, c.normal-n.ensures.value, c.span-w.ensures.value, c.span-v.ensures.value, c.span-u.ensures.value) at c.product-s.ensures.value in
    let t_is = rw (c.normal-2.ensures.value, c.normal-n.ensures.value, c.span-w.ensures.value, c.span-v.ensures.value, c.span-u.ensures.value) at c.product-t.ensures.value in
    (λ no. absurd (false≢true no), λ w. absurd (not_before_a c.args.a c.args.b c.args.c c.args.d c.requires.some (below_zero _ _ s_fits s_is c.if-s-lt0.true) w))

pub returns-then-s-size : goal.returns-then-s-size
returns-then-s-size c =
    let size_fits : SFits w128 c.product-size.result = search rules in
    let s_fits : SFits w128 c.product-s.result = search rules in
    let t_fits : SFits w128 c.product-t.result = search rules in
    let size_is = rw (c.normal-n.ensures.value, c.span-u.ensures.value, c.span-v.ensures.value) at c.product-size.ensures.value in
    let s_is = rw (c.normal.ensures.value, c.normal-n.ensures.value, c.span-w.ensures.value, c.span-v.ensures.value, c.span-u.ensures.value) at c.product-s.ensures.value in
    let t_is = rw (c.normal-2.ensures.value, c.normal-n.ensures.value, c.span-w.ensures.value, c.span-v.ensures.value, c.span-u.ensures.value) at c.product-t.ensures.value in
    (λ no. absurd (false≢true no), λ w. absurd (not_past_b c.args.a c.args.b c.args.c c.args.d c.requires.some (test_less _ _ _ _ size_fits s_fits size_is s_is c.if-s-size.true) w))

pub returns-then-t-lt0 : goal.returns-then-t-lt0
returns-then-t-lt0 c =
    let size_fits : SFits w128 c.product-size.result = search rules in
    let s_fits : SFits w128 c.product-s.result = search rules in
    let t_fits : SFits w128 c.product-t.result = search rules in
    let size_is = rw (c.normal-n.ensures.value, c.span-u.ensures.value, c.span-v.ensures.value) at c.product-size.ensures.value in
    let s_is = rw (c.normal.ensures.value, c.normal-n.ensures.value, c.span-w.ensures.value, c.span-v.ensures.value, c.span-u.ensures.value) at c.product-s.ensures.value in
    let t_is = rw (c.normal-2.ensures.value, c.normal-n.ensures.value, c.span-w.ensures.value, c.span-v.ensures.value, c.span-u.ensures.value) at c.product-t.ensures.value in
    (λ no. absurd (false≢true no), λ w. absurd (not_before_c c.args.a c.args.b c.args.c c.args.d c.requires.some (below_zero _ _ t_fits t_is c.if-t-lt0.true) w))

pub returns : goal.returns
returns c =
    let size_fits : SFits w128 c.product-size.result = search rules in
    let s_fits : SFits w128 c.product-s.result = search rules in
    let t_fits : SFits w128 c.product-t.result = search rules in
    let size_is = rw (c.normal-n.ensures.value, c.span-u.ensures.value, c.span-v.ensures.value) at c.product-size.ensures.value in
    let s_is = rw (c.normal.ensures.value, c.normal-n.ensures.value, c.span-w.ensures.value, c.span-v.ensures.value, c.span-u.ensures.value) at c.product-s.ensures.value in
    let t_is = rw (c.normal-2.ensures.value, c.normal-n.ensures.value, c.span-w.ensures.value, c.span-v.ensures.value, c.span-u.ensures.value) at c.product-t.ensures.value in (
      λ yes. crossing_inside c.args.a c.args.b c.args.c c.args.d _ _ _ refl refl refl c.requires.flat c.requires.some
          (not_below_zero _ _ s_fits s_is c.if-s-lt0.false) (test_not_less _ _ _ _ size_fits s_fits size_is s_is c.if-s-size.false)
          (not_below_zero _ _ t_fits t_is c.if-t-lt0.false) (test_at_most _ _ _ _ t_fits size_fits t_is size_is yes),
      λ w. tests_at_most _ _ _ _ t_fits size_fits t_is size_is (λ past. not_past_d c.args.a c.args.b c.args.c c.args.d c.requires.some past w),
    )
