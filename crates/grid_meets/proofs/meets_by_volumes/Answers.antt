use Rattle.std.proofs.Common.{rules, refl, SFits}
use Rattle.std.specs.Int.{w128}
use Rattle.std.proofs.lemmas.Bool.{false≢true}
use Rattle.grid_meets.proofs.Crossing.{Meets-exchanged, not_level_under, not_level_over}
use Rattle.grid_meets.proofs.Sides.{Meets-side}
use Rattle.grid_meets.proofs.Comparisons.{test_less, test_not_less, below_zero, not_below_zero, above_zero, not_above_zero, exactly_zero, level_below, level_above}
use Rattle.grid_meets.proofs.meets_by_volumes.Goals as goal

pub crosses_downward-requires-clause-apart : goal.crosses_downward-requires-clause-apart
crosses_downward-requires-clause-apart c =
    let a_fits : SFits w128 c.product-over_a.result = search rules in
    let a_is = rw (c.normal-n.ensures.value, c.span.ensures.value, c.span-2.ensures.value, c.span-3.ensures.value) at c.product-over_a.ensures.value in
    let b_fits : SFits w128 c.product-over_b.result = search rules in
    let b_is = rw (c.normal-n.ensures.value, c.span.ensures.value, c.span-2.ensures.value, c.span-4.ensures.value) at c.product-over_b.ensures.value in
    test_less _ _ _ _ a_fits b_fits a_is b_is c.if-over_a-over_b.true

pub crosses_downward-requires-then-over_b-over_a-clause-apart : goal.crosses_downward-requires-then-over_b-over_a-clause-apart
crosses_downward-requires-then-over_b-over_a-clause-apart c =
    let a_fits : SFits w128 c.product-over_a.result = search rules in
    let a_is = rw (c.normal-n.ensures.value, c.span.ensures.value, c.span-2.ensures.value, c.span-3.ensures.value) at c.product-over_a.ensures.value in
    let b_fits : SFits w128 c.product-over_b.result = search rules in
    let b_is = rw (c.normal-n.ensures.value, c.span.ensures.value, c.span-2.ensures.value, c.span-4.ensures.value) at c.product-over_b.ensures.value in
    test_less _ _ _ _ b_fits a_fits b_is a_is c.if-over_b-over_a.true

pub returns-then-over_a-over_b : goal.returns-then-over_a-over_b
returns-then-over_a-over_b c = (
  λ yes. Meets-exchanged c.args.b c.args.a c.args.c c.args.d c.args.e (c.crosses_downward.ensures.0 yes),
  λ w. c.crosses_downward.ensures.1 (Meets-exchanged c.args.a c.args.b c.args.c c.args.d c.args.e w),
)

pub returns-then-over_a-lt0 : goal.returns-then-over_a-lt0
returns-then-over_a-lt0 c =
    let a_fits : SFits w128 c.product-over_a.result = search rules in
    let a_is = rw (c.normal-n.ensures.value, c.span.ensures.value, c.span-2.ensures.value, c.span-3.ensures.value) at c.product-over_a.ensures.value in
    let b_fits : SFits w128 c.product-over_b.result = search rules in
    let b_is = rw (c.normal-n.ensures.value, c.span.ensures.value, c.span-2.ensures.value, c.span-4.ensures.value) at c.product-over_b.ensures.value in
    let a_over = test_not_less _ _ _ _ a_fits b_fits a_is b_is c.if-over_a-over_b.false in
    let b_over = test_not_less _ _ _ _ b_fits a_fits b_is a_is c.if-over_b-over_a.false in
    let under = below_zero _ _ a_fits a_is c.if-over_a-lt0.true in
    (λ no. absurd (false≢true no), λ w. absurd (not_level_under c.args.a c.args.b c.args.c c.args.d c.args.e under (level_below _ _ b_over a_over under) w))

pub returns-then-over_a-gt0 : goal.returns-then-over_a-gt0
returns-then-over_a-gt0 c =
    let a_fits : SFits w128 c.product-over_a.result = search rules in
    let a_is = rw (c.normal-n.ensures.value, c.span.ensures.value, c.span-2.ensures.value, c.span-3.ensures.value) at c.product-over_a.ensures.value in
    let b_fits : SFits w128 c.product-over_b.result = search rules in
    let b_is = rw (c.normal-n.ensures.value, c.span.ensures.value, c.span-2.ensures.value, c.span-4.ensures.value) at c.product-over_b.ensures.value in
    let a_over = test_not_less _ _ _ _ a_fits b_fits a_is b_is c.if-over_a-over_b.false in
    let b_over = test_not_less _ _ _ _ b_fits a_fits b_is a_is c.if-over_b-over_a.false in
    let over = above_zero _ _ a_fits a_is c.if-over_a-gt0.true in
    (λ no. absurd (false≢true no), λ w. absurd (not_level_over c.args.a c.args.b c.args.c c.args.d c.args.e over (level_above _ _ b_over a_over over) w))

pub returns-then-side_meets : goal.returns-then-side_meets
returns-then-side_meets c = (λ yes. Meets-side c.args.a c.args.b c.args.c c.args.d c.args.e (c.if-side_meets.ensures.0 refl), λ w. refl)

pub starts_inside-requires-clause-flat : goal.starts_inside-requires-clause-flat
starts_inside-requires-clause-flat c =
    let a_fits : SFits w128 c.product-over_a.result = search rules in
    let a_is = rw (c.normal-n.ensures.value, c.span.ensures.value, c.span-2.ensures.value, c.span-3.ensures.value) at c.product-over_a.ensures.value in
    exactly_zero _ (not_below_zero _ _ a_fits a_is c.if-over_a-lt0.false) (not_above_zero _ _ a_fits a_is c.if-over_a-gt0.false)

pub returns : goal.returns
returns c = (
  λ yes. c.starts_inside.ensures.inside yes c.args.b,
  λ w. c.starts_inside.ensures.side c.args.b w (λ side. false≢true (c.if-side_meets.ensures.1 side)),
)
