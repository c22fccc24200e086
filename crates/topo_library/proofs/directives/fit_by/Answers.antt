use Rattle.std.proofs.Common.{Some, sym, ap, ◌∙◌}
use Rattle.track_held.specs.Tables.{by_cells}
use Rattle.topo_library.proofs.Handles.{fits}
use Rattle.topo_library.proofs.directives.fit_by.Goals as goal

pub returns : goal.returns
returns c =
    fits _ _ c.deref_mut.result.now c.fit_by-code.new.self (c.in-Some.ensures.took ∙ ap Some (sym c.deref_mut.ensures.value)) c.give.ensures
    (by_cells c.args.table.now.cells c.args.table.now.bands.now) _ _ c.fit_by-code.result c.fit_by-code.ensures
