use Rattle.std.proofs.Common.{◌≡◌, ◌≤◌, ◌<◌, ◌+◌, ◌^◌, ◌∷◌, length, drop, refl, sym, ap, ◌∙◌, arith}
use Rattle.std.specs.List.{fold}
use Rattle.grid_base.specs.Points.{position_of}
use Rattle.grid_base.specs.Triples.{plus, minus}
use Rattle.pair_scan.proofs.Lists.{rest_at, ended}
use Rattle.mesh_base.proofs.PointOf.{position_of-point_of}
use Rattle.edit_pinch.specs.Rims.{with_way}
use Rattle.edit_pinch.proofs.copy_points.ways.Goals as goal

pub loop-u-init : goal.loop-u-init
loop-u-init g c = (refl, (omega arith), (omega arith), (omega arith))

pub with_way-sum-requires : goal.with_way-sum-requires
with_way-sum-requires g c =
    let few : c.loop-u.u-index < 2 ^ 64 = omega arith in
    let x = c.loop-u.invariant.1 in
    let y = c.loop-u.invariant.2 in
    let z = c.loop-u.invariant.3 in
    record { x_fits = omega (arith, few, x); y_fits = omega (arith, few, y); z_fits = omega (arith, few, z) }

pub loop-u-preserved : goal.loop-u-preserved
loop-u-preserved g c =
    let m = g.S.Surface.mesh c.args.mesh.now in
    let v = c.args.v in
    let us = c.args.us.now in
    let i = c.loop-u.u-index in
    let u = c.u-item.result in
    let here = ap position_of c.point_of-here.ensures ∙ position_of-point_of m v in
    let there = ap position_of c.point_of.ensures ∙ position_of-point_of m u in
    let sum : c.with_way-sum.result ≡ with_way m v c.loop-u.sum u = c.with_way-sum.ensures.value ∙ (λ j. plus c.loop-u.sum (minus (there j) (here j))) in
    let front : drop i us ≡ u ∷ drop (i + 1) us = rest_at us i u c.loop-u-test.true ∙ ap (λ k. k ∷ drop (i + 1) us) (sym c.u-item.is) in
    let x = c.loop-u.invariant.1 in
    let y = c.loop-u.invariant.2 in
    let z = c.loop-u.invariant.3 in
    let x_more = c.with_way-sum.ensures.x_within in
    let y_more = c.with_way-sum.ensures.y_within in
    let z_more = c.with_way-sum.ensures.z_within in (
      ap (λ s. fold (with_way m v) s (drop (i + 1) us)) sum ∙ sym (ap (fold (with_way m v) c.loop-u.sum) front) ∙ c.loop-u.invariant.0,
      (omega (arith, x, x_more)),
      (omega (arith, y, y_more)),
      (omega (arith, z, z_more)),
    )

pub returns-clause-value : goal.returns-clause-value
returns-clause-value g c =
    let m = g.S.Surface.mesh c.args.mesh.now in
    let end : length c.args.us.now ≤ c.loop-u.u-index = omega arith in
    sym (ap (fold (with_way m c.args.v) c.loop-u.sum) (ended c.args.us.now c.loop-u.u-index end)) ∙ c.loop-u.invariant.0

pub returns-clause-within : goal.returns-clause-within
returns-clause-within g c =
    let few : c.loop-u.u-index < 2 ^ 64 = omega arith in
    let x = c.loop-u.invariant.1 in
    let y = c.loop-u.invariant.2 in
    let z = c.loop-u.invariant.3 in
    record { x_fits = omega (arith, few, x); y_fits = omega (arith, few, y); z_fits = omega (arith, few, z) }
