use Rattle.std.proofs.Common.{Some, sym, ap, ◌∙◌}
use Rattle.topo_library.proofs.Handles.{answers}
use Rattle.topo_library.proofs.directives.advance.Goals as goal

pub returns : goal.returns
returns c =
    answers _ _ c.deref_mut.result.now c.advance-code.new.self (c.in-Some.ensures.took ∙ ap Some (sym c.deref_mut.ensures.value)) c.give.ensures
    _ _ _ c.advance-code.result c.advance-code.ensures
