use Rattle.std.proofs.Common.{◌≡◌, ◌<◌, ◌+◌, Some, length, slice_get, refl, ap, arith}
use Rattle.std.proofs.lemmas.Option.{slice_get_read}
use Rattle.id_table.proofs.StoneLaws.{below_up, over_down, none_past}
use Rattle.id_table.proofs.rows.around.Goals as goal

pub downward-requires-clause-over : goal.downward-requires-clause-over
downward-requires-clause-over g c = none_past c.args.id (length c.args.items.now) c.args.items.now (omega arith)

pub upward-requires-clause-below : goal.upward-requires-clause-below
upward-requires-clause-below g c =
    let xs = c.args.items.now in
    let place = c.args.at in
    let inside : place < length xs = omega (arith, c.if-at-items.false) in
    let at : slice_get xs place ≡ Some c.index-items-at.result = slice_get_read xs (length xs) place c.index-items-at.result refl inside c.index-items-at.is in
    let less = c.if-items-at.true in
    let ids = ap (λ y. y.id) c.index-items-at.is in
    below_up c.args.id place (place + 1) xs c.index-items-at.result c.requires at (omega (arith, less, ids)) (omega arith)

pub downward-requires-else-items-at-clause-over : goal.downward-requires-else-items-at-clause-over
downward-requires-else-items-at-clause-over g c =
    let xs = c.args.items.now in
    let place = c.args.at in
    let inside : place < length xs = omega (arith, c.if-at-items.false) in
    let at : slice_get xs place ≡ Some c.index-items-at.result = slice_get_read xs (length xs) place c.index-items-at.result refl inside c.index-items-at.is in
    let not_less = c.if-items-at.false in
    let ids = ap (λ y. y.id) c.index-items-at.is in
    over_down c.args.id place place xs c.index-items-at.result c.requires at (omega (arith, not_less, ids)) (omega arith)
