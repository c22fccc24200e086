use Rattle.std.proofs.Common.{Some, sym, ap, ◌∙◌}
use Rattle.topo_library.proofs.Handles.{begins}
use Rattle.topo_library.proofs.log_calls.begin_log.Goals as goal

pub returns : goal.returns
returns c =
    begins _ _ c.deref_mut.result.now c.begin_log-code.new.self (c.in-Some.ensures.took ∙ ap Some (sym c.deref_mut.ensures.value)) c.give.ensures
    c.begin_log-code.result c.begin_log-code.ensures
