use Rattle.track_run.proofs.FirstSides.{all_met}
use Rattle.track_run.proofs.surface_facts.is_side_met_twice.Goals as goal

pub returns : goal.returns
returns g c = λ h.
    all_met (g.S.Surface.mesh c.args.mesh.now) c.args.places c.args.marks.now.items c.is_met_twice.new.marks.items c.is_met_twice-2.new.marks.items c.is_met_twice-3.new.marks.items c.args.c.now
    (c.is_met_twice.ensures c.if-is_met_twice.false) (c.is_met_twice-2.ensures c.if-is_met_twice-2.false) (c.is_met_twice-3.ensures h)
