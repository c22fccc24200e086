use Rattle.std.proofs.Common.{refl, ap, sym, subst}
use Rattle.mesh_base.specs.Mesh.{Mesh}
use Rattle.mesh_journal.specs.Journal.{mesh_in}
use Rattle.log_run.specs.Laws.{IsValidState}
use Rattle.log_run.specs.States.{LogState}
use Rattle.track_measure.specs.Measured.{MeasuresLines}
use Rattle.track_measure.proofs.command.measure_lines.Goals as goal

pub measure_each-requires-clause-fresh : goal.measure_each-requires-clause-fresh
measure_each-requires-clause-fresh g c = rw c.new-run.ensures refl

pub measure_each-requires-clause-valid : goal.measure_each-requires-clause-valid
measure_each-requires-clause-valid g c = subst IsValidState (sym c.new-run.ensures) (c.fitting_lines_are_safe.ensures.first (mesh_in c.args.mesh) c.requires.valid)

pub returns : goal.returns
returns g c =
    let P : Mesh → Type 0 = λ m. MeasuresLines m c.args.lines (g.O.Outside.around c.args.outside.now) (g.O.Outside.around c.measure_each.new.outside) c.measure_each.result in
    subst P (ap (λ (s : LogState). s.replay.mesh) c.new-run.ensures) c.measure_each.ensures
