use Rattle.std.proofs.Common.{Some, sym, ap, ◌∙◌}
use Rattle.topo_library.proofs.Handles.{renumbers}
use Rattle.topo_library.proofs.directives.renumber.Goals as goal

pub returns : goal.returns
returns c =
    renumbers _ _ c.deref_mut.result.now c.renumber-code.new.self (c.in-Some.ensures.took ∙ ap Some (sym c.deref_mut.ensures.value)) c.give.ensures
    c.renumber-code.result c.renumber-code.ensures
