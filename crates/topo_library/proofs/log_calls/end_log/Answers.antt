use Rattle.std.proofs.Common.{Some, sym, ap, ◌∙◌}
use Rattle.topo_library.proofs.Handles.{ends}
use Rattle.topo_library.proofs.log_calls.end_log.Goals as goal

pub returns : goal.returns
returns c =
    ends _ _ c.deref_mut.result.now c.end_log-code.new.self (c.in-Some.ensures.took ∙ ap Some (sym c.deref_mut.ensures.value)) c.give.ensures
    c.end_log-code.result c.end_log-code.ensures
