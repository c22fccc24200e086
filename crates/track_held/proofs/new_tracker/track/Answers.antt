use Rattle.std.proofs.Common.{Some, refl, sym, ap, ◌∙◌}
use Rattle.track_held.proofs.Faults.{refused_so, of_crowd}
use Rattle.track_held.proofs.new_tracker.track.Goals as goal

pub returns-then-faces-clause-first : goal.returns-then-faces-clause-first
returns-then-faces-clause-first c = of_crowd c.args.points.now c.args.faces.now c.if-points.false c.if-faces.true ∙ ap Some (sym c.crowded_fault-fault.ensures)

pub returns-clause-first : goal.returns-clause-first
returns-clause-first c = refused_so c.args.points.now c.args.faces.now c.if-points.false (c.in-Ok.ensures.none refl) _ _ c.in-Ok.ensures.points c.in_ok-faces.ensures c.track_lists.result c.track_lists.ensures.first
