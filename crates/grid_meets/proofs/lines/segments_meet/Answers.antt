use Rattle.std.proofs.Common.{rules, SFits}
use Rattle.std.specs.Int.{w128}
use Rattle.std.proofs.lemmas.Bool.{false≢true}
use Rattle.grid_base.specs.Triples.{minus, cross}
use Rattle.grid_meets.proofs.Segments.{not_in_plane_over, not_in_plane_under}
use Rattle.grid_meets.proofs.OnOneLine.{HasNoLength-from_square, square_of-not_negative}
use Rattle.grid_meets.proofs.Swaps.{Meets-swapped, HasNoLength-swapped, points_meet, points_same}
use Rattle.grid_meets.proofs.Comparisons.{above_zero, not_above_zero, below_zero, not_below_zero, exactly_zero}
use Rattle.grid_meets.proofs.lines.segments_meet.Goals as goal

pub returns-then-h-gt0 : goal.returns-then-h-gt0
returns-then-h-gt0 c =
    let h_fits : SFits w128 c.product-h.result = search rules in
    let h_is = rw (c.normal-n.ensures.value, c.span-u.ensures.value, c.span-v.ensures.value, c.span.ensures.value) at c.product-h.ensures.value in
    (λ no. absurd (false≢true no), λ w. absurd (not_in_plane_over c.args.a c.args.b c.args.c c.args.d (above_zero _ _ h_fits h_is c.if-h-gt0.true) w))

pub returns-then-h-lt0 : goal.returns-then-h-lt0
returns-then-h-lt0 c =
    let h_fits : SFits w128 c.product-h.result = search rules in
    let h_is = rw (c.normal-n.ensures.value, c.span-u.ensures.value, c.span-v.ensures.value, c.span.ensures.value) at c.product-h.ensures.value in
    (λ no. absurd (false≢true no), λ w. absurd (not_in_plane_under c.args.a c.args.b c.args.c c.args.d (below_zero _ _ h_fits h_is c.if-h-lt0.true) w))

pub lines_cross-requires-clause-flat : goal.lines_cross-requires-clause-flat
lines_cross-requires-clause-flat c =
    let h_fits : SFits w128 c.product-h.result = search rules in
    let h_is = rw (c.normal-n.ensures.value, c.span-u.ensures.value, c.span-v.ensures.value, c.span.ensures.value) at c.product-h.ensures.value in
    exactly_zero _ (not_below_zero _ _ h_fits h_is c.if-h-lt0.false) (not_above_zero _ _ h_fits h_is c.if-h-gt0.false)

pub lines_cross-requires-clause-some : goal.lines_cross-requires-clause-some
lines_cross-requires-clause-some c =
    let n_fits : SFits w128 c.product.result = search rules in
    let n_is = rw (c.normal-n.ensures.value, c.span-u.ensures.value, c.span-v.ensures.value) at c.product.ensures.value in
    above_zero _ _ n_fits n_is c.if-product-gt0.true

pub lines_meet-requires-clause-parallel : goal.lines_meet-requires-clause-parallel
lines_meet-requires-clause-parallel c =
    let n_fits : SFits w128 c.product.result = search rules in
    let n_is = rw (c.normal-n.ensures.value, c.span-u.ensures.value, c.span-v.ensures.value) at c.product.ensures.value in
    let parallel = HasNoLength-from_square (cross (minus c.args.b c.args.a) (minus c.args.d c.args.c)) (exactly_zero _ (square_of-not_negative (cross (minus c.args.b c.args.a) (minus c.args.d c.args.c))) (not_above_zero _ _ n_fits n_is c.if-product-gt0.false)) in
    parallel

pub lines_meet-requires-clause-long : goal.lines_meet-requires-clause-long
lines_meet-requires-clause-long c =
    let fits : SFits w128 c.product-2.result = search rules in
    let is = rw c.span-u.ensures.value at c.product-2.ensures.value in
    above_zero _ _ fits is c.if-product-gt0-2.true

pub lines_meet-requires-then-product-gt0-3-clause-parallel : goal.lines_meet-requires-then-product-gt0-3-clause-parallel
lines_meet-requires-then-product-gt0-3-clause-parallel c =
    let n_fits : SFits w128 c.product.result = search rules in
    let n_is = rw (c.normal-n.ensures.value, c.span-u.ensures.value, c.span-v.ensures.value) at c.product.ensures.value in
    let parallel = HasNoLength-from_square (cross (minus c.args.b c.args.a) (minus c.args.d c.args.c)) (exactly_zero _ (square_of-not_negative (cross (minus c.args.b c.args.a) (minus c.args.d c.args.c))) (not_above_zero _ _ n_fits n_is c.if-product-gt0.false)) in
    HasNoLength-swapped (minus c.args.b c.args.a) (minus c.args.d c.args.c) parallel

pub lines_meet-requires-then-product-gt0-3-clause-long : goal.lines_meet-requires-then-product-gt0-3-clause-long
lines_meet-requires-then-product-gt0-3-clause-long c =
    let fits : SFits w128 c.product-3.result = search rules in
    let is = rw c.span-v.ensures.value at c.product-3.ensures.value in
    above_zero _ _ fits is c.if-product-gt0-3.true

pub returns-then-product-gt0-3 : goal.returns-then-product-gt0-3
returns-then-product-gt0-3 c =
    let same = c.lines_meet-then-product-gt0-3.ensures in
    (λ yes. Meets-swapped c.args.c c.args.d c.args.a c.args.b (same.0 yes), λ w. same.1 (Meets-swapped c.args.a c.args.b c.args.c c.args.d w))

pub returns : goal.returns
returns c =
    let u_fits : SFits w128 c.product-2.result = search rules in
    let v_fits : SFits w128 c.product-3.result = search rules in
    let u_is = rw c.span-u.ensures.value at c.product-2.ensures.value in
    let v_is = rw c.span-v.ensures.value at c.product-3.ensures.value in
    let u_none = HasNoLength-from_square (minus c.args.b c.args.a) (exactly_zero _ (square_of-not_negative (minus c.args.b c.args.a)) (not_above_zero _ _ u_fits u_is c.if-product-gt0-2.false)) in
    let v_none = HasNoLength-from_square (minus c.args.d c.args.c) (exactly_zero _ (square_of-not_negative (minus c.args.d c.args.c)) (not_above_zero _ _ v_fits v_is c.if-product-gt0-3.false)) in
    let same = c.same_position.ensures in
    (λ yes. points_meet c.args.a c.args.b c.args.c c.args.d (same.0 yes), λ w. same.1 (points_same c.args.a c.args.b c.args.c c.args.d u_none v_none w))
