use Rattle.std.proofs.Common.{◌≡◌, ◌<◌, ◌+◌, ◌-◌, ◌/◌, Some, length, slice_get, refl, ap, arith}
use Rattle.std.proofs.lemmas.Option.{slice_get_read}
use Rattle.id_table.proofs.StoneLaws.{rise_between, lower_from}
use Rattle.id_table.proofs.rows.lower_near.Goals as goal

pub loop-low-preserved-then-items-mid : goal.loop-low-preserved-then-items-mid
loop-low-preserved-then-items-mid g c =
    let inv = c.loop-low.invariant in
    let xs = c.args.items.now in
    let mid = c.loop-low.low + (c.loop-low.high - c.loop-low.low) / 2 in
    let more = c.loop-low-test.true in
    let inside : mid < length xs = omega (arith, inv.order, inv.inside) in
    let at : slice_get xs mid ≡ Some c.index-items-mid.result = slice_get_read xs (length xs) mid c.index-items-mid.result refl inside c.index-items-mid.is in
    let less = c.if-items-mid.true in
    let ids = ap (λ y. y.id) c.index-items-mid.is in
    record {
      order = omega (arith, inv.order);
      inside = inv.inside;
      below = λ k e at_k h. let between = rise_between 0 xs k mid e c.index-items-mid.result c.requires at_k at (omega arith) in omega (arith, less, between, ids);
      over = inv.over;
    }

pub loop-low-preserved : goal.loop-low-preserved
loop-low-preserved g c =
    let inv = c.loop-low.invariant in
    let xs = c.args.items.now in
    let mid = c.loop-low.low + (c.loop-low.high - c.loop-low.low) / 2 in
    let more = c.loop-low-test.true in
    let inside : mid < length xs = omega (arith, inv.order, inv.inside) in
    let at : slice_get xs mid ≡ Some c.index-items-mid.result = slice_get_read xs (length xs) mid c.index-items-mid.result refl inside c.index-items-mid.is in
    let not_less = c.if-items-mid.false in
    let ids = ap (λ y. y.id) c.index-items-mid.is in
    record {
      order = omega (arith, inv.order);
      inside = omega (arith, inv.order, inv.inside);
      below = inv.below;
      over = λ k e at_k h. let between = rise_between 0 xs mid k c.index-items-mid.result e c.requires at at_k h in omega (arith, not_less, between, ids);
    }

pub returns : goal.returns
returns g c =
    let inv = c.loop-low.invariant in
    let done = c.loop-low-test.false in
    lower_from c.args.id c.loop-low.low c.args.items.now (omega (arith, inv.order, inv.inside)) inv.below (λ k e at h. inv.over k e at (omega (arith, done, inv.order)))
