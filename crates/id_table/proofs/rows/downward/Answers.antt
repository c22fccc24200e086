use Rattle.std.proofs.Common.{◌≡◌, ◌<◌, ◌+◌, ◌-◌, Some, length, slice_get, refl, ap, arith}
use Rattle.std.proofs.lemmas.Option.{slice_get_read}
use Rattle.id_table.proofs.StoneLaws.{below_up, over_down}
use Rattle.id_table.proofs.rows.downward.Goals as goal

pub returns-then-items-high : goal.returns-then-items-high
returns-then-items-high g c =
    let inv = c.loop-step.invariant in
    let xs = c.args.items.now in
    let place = c.loop-step.high - c.loop-step.step in
    let more = c.loop-step-test.true in
    let inside : place < length xs = omega (arith, inv.inside, inv.some, more) in
    let at : slice_get xs place ≡ Some c.index-items-high.result = slice_get_read xs (length xs) place c.index-items-high.result refl inside c.index-items-high.is in
    let less = c.if-items-high.true in
    let ids = ap (λ y. y.id) c.index-items-high.is in
    record {
      order = omega (arith, inv.some, more);
      inside = inv.inside;
      below = below_up c.args.id place (place + 1) xs c.index-items-high.result c.requires.rise at (omega (arith, less, ids)) (omega arith);
      over = inv.over;
    }

pub loop-step-preserved : goal.loop-step-preserved
loop-step-preserved g c =
    let inv = c.loop-step.invariant in
    let xs = c.args.items.now in
    let place = c.loop-step.high - c.loop-step.step in
    let more = c.loop-step-test.true in
    let inside : place < length xs = omega (arith, inv.inside, inv.some, more) in
    let at : slice_get xs place ≡ Some c.index-items-high.result = slice_get_read xs (length xs) place c.index-items-high.result refl inside c.index-items-high.is in
    let not_less = c.if-items-high.false in
    let ids = ap (λ y. y.id) c.index-items-high.is in
    record {
      inside = omega (arith, inside);
      some = c.next_step-step.ensures;
      over = over_down c.args.id place place xs c.index-items-high.result c.requires.rise at (omega (arith, not_less, ids)) (omega arith);
    }
