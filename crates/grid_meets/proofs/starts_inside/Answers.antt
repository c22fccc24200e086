use Rattle.std.proofs.Common.{rules, refl, SFits}
use Rattle.std.specs.Int.{w128}
use Rattle.std.proofs.lemmas.Bool.{false≢true}
use Rattle.grid_meets.proofs.Flat.{flat_meets_side}
use Rattle.grid_meets.proofs.Sides.{must_start_inside, meets_from_inside}
use Rattle.grid_meets.proofs.Comparisons.{at_most_zero, below_zero, not_below_zero, test_some, clash, sum_at_most, tests_sum_at_most}
use Rattle.grid_meets.proofs.starts_inside.Goals as goal

pub returns-then-size-le0 : goal.returns-then-size-le0
returns-then-size-le0 c =
    let size_fits : SFits w128 c.product-size.result = search rules in
    let size_is = rw (c.normal-n.ensures.value, c.span-f.ensures.value, c.span-g.ensures.value) at c.product-size.ensures.value in
    record {
      inside = λ no. absurd (false≢true no);
      side = λ b w none. absurd (none (flat_meets_side c.args.a b c.args.c c.args.d c.args.e (at_most_zero _ _ size_fits size_is c.if-size-le0.true) w));
    }

pub returns-then-k-lt0 : goal.returns-then-k-lt0
returns-then-k-lt0 c =
    let size_fits : SFits w128 c.product-size.result = search rules in
    let size_is = rw (c.normal-n.ensures.value, c.span-f.ensures.value, c.span-g.ensures.value) at c.product-size.ensures.value in
    let k_fits : SFits w128 c.product-k.result = search rules in
    let k_is = rw (c.normal-n.ensures.value, c.normal.ensures.value, c.span-f.ensures.value, c.span-g.ensures.value, c.span-q.ensures.value) at c.product-k.ensures.value in
    let some = test_some _ _ size_fits size_is c.if-size-le0.false in
    record {
      inside = λ no. absurd (false≢true no);
      side = λ b w none. absurd (clash _ (must_start_inside c.args.a c.args.c c.args.d c.args.e _ _ _ refl refl refl some c.requires.flat b w none).1 (below_zero _ _ k_fits k_is c.if-k-lt0.true));
    }

pub returns-then-l-lt0 : goal.returns-then-l-lt0
returns-then-l-lt0 c =
    let size_fits : SFits w128 c.product-size.result = search rules in
    let size_is = rw (c.normal-n.ensures.value, c.span-f.ensures.value, c.span-g.ensures.value) at c.product-size.ensures.value in
    let k_fits : SFits w128 c.product-k.result = search rules in
    let k_is = rw (c.normal-n.ensures.value, c.normal.ensures.value, c.span-f.ensures.value, c.span-g.ensures.value, c.span-q.ensures.value) at c.product-k.ensures.value in
    let some = test_some _ _ size_fits size_is c.if-size-le0.false in
    let l_fits : SFits w128 c.product-l.result = search rules in
    let l_is = rw (c.normal-n.ensures.value, c.normal-2.ensures.value, c.span-f.ensures.value, c.span-g.ensures.value, c.span-q.ensures.value) at c.product-l.ensures.value in
    record {
      inside = λ no. absurd (false≢true no);
      side = λ b w none. absurd (clash _ (must_start_inside c.args.a c.args.c c.args.d c.args.e _ _ _ refl refl refl some c.requires.flat b w none).2 (below_zero _ _ l_fits l_is c.if-l-lt0.true));
    }

pub returns : goal.returns
returns c =
    let size_fits : SFits w128 c.product-size.result = search rules in
    let size_is = rw (c.normal-n.ensures.value, c.span-f.ensures.value, c.span-g.ensures.value) at c.product-size.ensures.value in
    let k_fits : SFits w128 c.product-k.result = search rules in
    let k_is = rw (c.normal-n.ensures.value, c.normal.ensures.value, c.span-f.ensures.value, c.span-g.ensures.value, c.span-q.ensures.value) at c.product-k.ensures.value in
    let some = test_some _ _ size_fits size_is c.if-size-le0.false in
    let l_fits : SFits w128 c.product-l.result = search rules in
    let l_is = rw (c.normal-n.ensures.value, c.normal-2.ensures.value, c.span-f.ensures.value, c.span-g.ensures.value, c.span-q.ensures.value) at c.product-l.ensures.value in
    record {
      inside = λ yes b. meets_from_inside c.args.a c.args.c c.args.d c.args.e _ _ _ refl refl refl some c.requires.flat b (
        sum_at_most _ _ _ _ _ _ c.product-k.ensures.within c.product-l.ensures.within size_fits k_is l_is size_is yes,
        not_below_zero _ _ k_fits k_is c.if-k-lt0.false,
        not_below_zero _ _ l_fits l_is c.if-l-lt0.false,
      );
      side = λ b w none. tests_sum_at_most _ _ _ _ _ _ c.product-k.ensures.within c.product-l.ensures.within size_fits k_is l_is size_is
          (must_start_inside c.args.a c.args.c c.args.d c.args.e _ _ _ refl refl refl some c.requires.flat b w none).0;
    }
