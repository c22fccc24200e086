use Rattle.std.proofs.Common.{Some, sym, ap, ◌∙◌}
use Rattle.track_held.specs.Dropping.{drop_effect, drop_told}
use Rattle.topo_library.specs.Codes.{tracker_state}
use Rattle.topo_library.proofs.Handles.{wrote, tells}
use Rattle.topo_library.proofs.component_drop.drop_component.Goals as goal

pub returns-clause-does : goal.returns-clause-does
returns-clause-does c =
    wrote _ _ c.as_mut.result.now c.drop_with-code.new.tracker (c.in-Some.ensures.took ∙ ap Some (sym c.as_mut.ensures.value)) c.give.ensures
    (drop_effect c.args.v) c.drop_with-code.result c.drop_with-code.ensures.writes

pub returns-clause-tells : goal.returns-clause-tells
returns-clause-tells c =
    tells (λ t. drop_told c.args.v (tracker_state t)) _ c.as_mut.result.now (c.in-Some.ensures.took ∙ ap Some (sym c.as_mut.ensures.value)) _ _ c.drop_with-code.result c.drop_with-code.ensures.tells
