use Rattle.std.proofs.Common.{ap, ◌∙◌}
use Rattle.mesh_base.specs.Mesh.{Mesh}
use Rattle.track_measure.specs.MeasureLines.{measure_of_line}
use Rattle.track_measure.proofs.LinesTold.{tells_found}
use Rattle.track_measure.proofs.command.tell_line.Goals as goal

pub returns-in-Some : goal.returns-in-Some
returns-in-Some g c =
    tells_found (measure_of_line c.args.number c.args.before c.args.run.now.replay.mesh c.args.line.now) c.in_ok-found.field-0 c.in-Some.found (c.in_ok-found.ensures ∙ ap (λ (m : Mesh). measure_of_line c.args.number c.args.before m c.args.line.now) c.mesh.ensures) c.in-Some.is
    (g.O.Outside.around c.args.outside.now) (g.O.Outside.around c.tell.new.outside) c.tell.result c.tell.ensures
