use Rattle.std.proofs.Common.{Some, sym, ap, ◌∙◌}
use Rattle.topo_library.proofs.Handles.{forgets}
use Rattle.topo_library.proofs.queries.forget_log.Goals as goal

pub returns : goal.returns
returns c =
    forgets _ _ c.as_mut.result.now c.clear.new.tracker (c.in-Some.ensures.took ∙ ap Some (sym c.as_mut.ensures.value)) c.give.ensures c.clear.ensures
