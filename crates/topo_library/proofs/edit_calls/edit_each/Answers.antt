use Rattle.std.proofs.Common.{Some, sym, ap, ◌∙◌}
use Rattle.topo_library.proofs.Handles.{edited}
use Rattle.topo_library.proofs.edit_calls.edit_each.Goals as goal

pub returns : goal.returns
returns c =
    edited _ _ c.as_mut.result.now c.ask_rows-code.new.tracker (c.in-Some.ensures.took ∙ ap Some (sym c.as_mut.ensures.value)) c.give.ensures
    c.args.rows.now _ _ _ _ c.ask_rows-code.result c.ask_rows-code.ensures
