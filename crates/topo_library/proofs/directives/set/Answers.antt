use Rattle.std.proofs.Common.{Some, sym, ap, ◌∙◌}
use Rattle.topo_library.proofs.Handles.{sets}
use Rattle.topo_library.proofs.directives.set.Goals as goal

pub returns : goal.returns
returns c =
    sets _ _ c.deref_mut.result.now c.set-code.new.self (c.in-Some.ensures.took ∙ ap Some (sym c.deref_mut.ensures.value)) c.give.ensures
    c.args.set c.set-code.result c.set-code.ensures
