use Rattle.std.proofs.Common.{Some, sym, ap, ◌∙◌}
use Rattle.step_text.specs.declared.Directive.TheVariants.{Save}
use Rattle.track_engine.specs.Answers.{Nothing}
use Rattle.track_engine.specs.Effects.{effect_of}
use Rattle.topo_library.proofs.Handles.{wrote, tells}
use Rattle.topo_library.proofs.log_calls.save.Goals as goal

pub returns-clause-does : goal.returns-clause-does
returns-clause-does c =
    wrote _ _ c.deref_mut.result.now c.save-code.new.self (c.in-Some.ensures.took ∙ ap Some (sym c.deref_mut.ensures.value)) c.give.ensures
    (effect_of Nothing Save) c.save-code.result c.save-code.ensures.writes

pub returns-clause-tells : goal.returns-clause-tells
returns-clause-tells c =
    tells _ _ c.deref_mut.result.now (c.in-Some.ensures.took ∙ ap Some (sym c.deref_mut.ensures.value)) _ _ c.save-code.result c.save-code.ensures.tells
