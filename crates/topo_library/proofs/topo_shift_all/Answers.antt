use Rattle.std.proofs.Common.{◌≡◌, rules, subst}
use Rattle.track_held.specs.declared.given.NamedPoint.{NamedPoint}
use Rattle.topo_library.specs.Codes.{HolderHasShiftedAll}
use Rattle.topo_library.proofs.topo_shift_all.Goals as goal

pub returns : goal.returns
returns c =
    let P : NamedPoint → Type 0 = λ row. HolderHasShiftedAll row c.args.topo.now.owned.value c.shift_every.new.topo.owned.value c.args.fault.now c.shift_every.new.fault c.shift_every.result in
    let given : NamedPoint = record { id = 0; x = c.args.x; y = c.args.y; z = c.args.z } in
    let same : c.row_of-row.result ≡ given = search rules in
    subst P same c.shift_every.ensures
