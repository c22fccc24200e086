use Rattle.std.proofs.Common.{◌≡◌, Some, length, arith}
use Rattle.track_held.specs.Editing.{edits_asked}
use Rattle.track_held.proofs.EditRanges.{rows_each}
use Rattle.topo_library.proofs.edit_calls.ask_rows.Goals as goal

pub ask-requires : goal.ask-requires
ask-requires c =
    let is : edits_asked c.args.rows.now ≡ Some c.in-Ok-Some.asked = (let e = c.in-Ok-Some.ensures in let f = c.in-Ok-Some.field-0-is in let a = c.in-Ok-Some.asked-is in cc) in
    let each : length c.in-Ok-Some.asked ≡ length c.args.rows.now = rows_each c.args.rows.now c.in-Ok-Some.asked is in
    omega (arith, each, c.if-into-rows.false)
