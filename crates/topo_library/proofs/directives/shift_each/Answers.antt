use Rattle.std.proofs.Common.{Some, sym, ap, ◌∙◌}
use Rattle.topo_library.proofs.Handles.{all_shifts}
use Rattle.topo_library.proofs.directives.shift_each.Goals as goal

pub returns : goal.returns
returns c =
    all_shifts _ _ c.as_mut.result.now c.shift_all-code.new.tracker (c.in-Some.ensures.took ∙ ap Some (sym c.as_mut.ensures.value)) c.give.ensures
    _ _ _ c.shift_all-code.result c.shift_all-code.ensures
