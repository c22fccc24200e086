use Rattle.std.proofs.Common.{Some, sym, ap, ◌∙◌}
use Rattle.topo_library.proofs.Handles.{gives_log}
use Rattle.topo_library.proofs.queries.read_log.Goals as goal

pub returns : goal.returns
returns c =
    gives_log _ _ c.as_mut.result.now c.take_log-code.new.tracker (c.in-Some.ensures.took ∙ ap Some (sym c.as_mut.ensures.value)) c.give.ensures
    _ _ _ _ c.take_log-code.result c.take_log-code.ensures
