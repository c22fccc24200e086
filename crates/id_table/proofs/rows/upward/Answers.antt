use Rattle.std.proofs.Common.{◌≡◌, ◌<◌, ◌+◌, Some, length, slice_get, refl, ap, arith}
use Rattle.std.proofs.lemmas.Option.{slice_get_read}
use Rattle.id_table.proofs.StoneLaws.{below_up, over_down, none_past}
use Rattle.id_table.proofs.rows.upward.Goals as goal

pub returns-then-items-low : goal.returns-then-items-low
returns-then-items-low g c =
    let inv = c.loop-step.invariant in
    let xs = c.args.items.now in
    let place = c.loop-step.low + c.loop-step.step in
    let more = c.loop-step-test.true in
    let inside : place < length xs = omega (arith, inv.inside, inv.some, more) in
    let at : slice_get xs place ≡ Some c.index-items-low.result = slice_get_read xs (length xs) place c.index-items-low.result refl inside c.index-items-low.is in
    let not_less = c.if-items-low.true in
    let ids = ap (λ y. y.id) c.index-items-low.is in
    record {
      order = omega (arith, inv.some);
      inside = omega (arith, inside);
      below = inv.below;
      over = over_down c.args.id place place xs c.index-items-low.result c.requires.rise at (omega (arith, not_less, ids)) (omega arith);
    }

pub loop-step-preserved : goal.loop-step-preserved
loop-step-preserved g c =
    let inv = c.loop-step.invariant in
    let xs = c.args.items.now in
    let place = c.loop-step.low + c.loop-step.step in
    let more = c.loop-step-test.true in
    let inside : place < length xs = omega (arith, inv.inside, inv.some, more) in
    let at : slice_get xs place ≡ Some c.index-items-low.result = slice_get_read xs (length xs) place c.index-items-low.result refl inside c.index-items-low.is in
    let less = c.if-items-low.false in
    let ids = ap (λ y. y.id) c.index-items-low.is in
    record {
      inside = inside;
      some = c.next_step-step.ensures;
      below = below_up c.args.id place (place + 1) xs c.index-items-low.result c.requires.rise at (omega (arith, less, ids)) (omega arith);
    }

pub returns : goal.returns
returns g c =
    let inv = c.loop-step.invariant in
    record {
      order = omega (arith, inv.inside);
      inside = omega arith;
      below = inv.below;
      over = none_past c.args.id (length c.args.items.now) c.args.items.now (omega arith);
    }
