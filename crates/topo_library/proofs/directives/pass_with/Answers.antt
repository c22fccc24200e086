use Rattle.std.proofs.Common.{Some, sym, ap, ◌∙◌}
use Rattle.topo_library.proofs.Handles.{answers, tells}
use Rattle.topo_library.proofs.directives.pass_with.Goals as goal

pub returns-clause-does : goal.returns-clause-does
returns-clause-does c =
    answers _ _ c.deref_mut.result.now c.pass-code.new.self (c.in-Some.ensures.took ∙ ap Some (sym c.deref_mut.ensures.value)) c.give.ensures
    _ _ _ c.pass-code.result c.pass-code.ensures.does

pub returns-clause-tells : goal.returns-clause-tells
returns-clause-tells c =
    tells _ _ c.deref_mut.result.now (c.in-Some.ensures.took ∙ ap Some (sym c.deref_mut.ensures.value)) _ _ c.pass-code.result c.pass-code.ensures.tells
