use Rattle.std.proofs.Common.{◌≡◌, rules, subst}
use Rattle.track_held.specs.declared.given.NamedPoint.{NamedPoint}
use Rattle.topo_library.specs.Codes.{HolderHasShifted}
use Rattle.topo_library.proofs.topo_shift.Goals as goal

pub returns : goal.returns
returns c =
    let P : NamedPoint → Type 0 = λ row. HolderHasShifted row c.args.topo.now.owned.value c.shift_one.new.topo.owned.value c.args.fault.now c.shift_one.new.fault c.shift_one.result in
    let given : NamedPoint = record { id = c.args.v; x = c.args.x; y = c.args.y; z = c.args.z } in
    let same : c.row_of-row.result ≡ given = search rules in
    subst P same c.shift_one.ensures
