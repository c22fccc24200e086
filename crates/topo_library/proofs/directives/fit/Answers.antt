use Rattle.std.proofs.Common.{Some, sym, ap, ◌∙◌}
use Rattle.track_held.specs.Fitting.{always}
use Rattle.topo_library.proofs.Handles.{fits}
use Rattle.topo_library.proofs.directives.fit.Goals as goal

pub returns : goal.returns
returns c =
    fits _ _ c.deref_mut.result.now c.fit-code.new.self (c.in-Some.ensures.took ∙ ap Some (sym c.deref_mut.ensures.value)) c.give.ensures
    (always c.args.band) _ _ c.fit-code.result c.fit-code.ensures
