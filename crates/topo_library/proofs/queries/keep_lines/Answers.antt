use Rattle.std.proofs.Common.{Some, sym, ap, ◌∙◌}
use Rattle.topo_library.proofs.Handles.{keeps_by}
use Rattle.topo_library.proofs.queries.keep_lines.Goals as goal

pub returns : goal.returns
returns c =
    keeps_by _ _ c.as_mut.result.now c.keep.new.tracker (c.in-Some.ensures.took ∙ ap Some (sym c.as_mut.ensures.value)) c.give.ensures c.args.on c.keep.ensures
