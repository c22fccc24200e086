use Rattle.std.proofs.Common.{Some, sym, ap, ◌∙◌}
use Rattle.track_engine.specs.Effects.{undo_effect}
use Rattle.topo_library.proofs.Handles.{wrote, tells}
use Rattle.topo_library.proofs.edit_calls.undo.Goals as goal

pub returns-clause-does : goal.returns-clause-does
returns-clause-does c =
    wrote _ _ c.deref_mut.result.now c.undo-code.new.self (c.in-Some.ensures.took ∙ ap Some (sym c.deref_mut.ensures.value)) c.give.ensures
    (λ s. undo_effect s.groups s) c.undo-code.result c.undo-code.ensures.writes

pub returns-clause-tells : goal.returns-clause-tells
returns-clause-tells c =
    tells _ _ c.deref_mut.result.now (c.in-Some.ensures.took ∙ ap Some (sym c.deref_mut.ensures.value)) _ _ c.undo-code.result c.undo-code.ensures.tells
