use Rattle.std.proofs.Common.{refl, ap, sym, subst}
use Rattle.std.specs.Prelude.{IfOk}
use Rattle.mesh_base.specs.Mesh.{Mesh}
use Rattle.mesh_journal.specs.Journal.{mesh_in}
use Rattle.log_run.specs.Laws.{IsValidState}
use Rattle.log_run.specs.States.{LogState}
use Rattle.track_prove.specs.Doing.{ProvesLines}
use Rattle.track_prove.proofs.prove_command.prove_lines.Goals as goal

pub prove_each-requires-clause-fresh : goal.prove_each-requires-clause-fresh
prove_each-requires-clause-fresh g c = rw c.new-run.ensures refl

pub prove_each-requires-clause-valid : goal.prove_each-requires-clause-valid
prove_each-requires-clause-valid g c = subst IsValidState (sym c.new-run.ensures) (c.fitting_lines_are_safe.ensures.first (mesh_in c.args.mesh) c.requires.valid)

pub returns-clause-proves : goal.returns-clause-proves
returns-clause-proves g c =
    let P : Mesh → Type 0 = λ m. IfOk c.prove_each.result (ProvesLines m c.args.lines) in
    subst P (ap (λ (s : LogState). s.replay.mesh) c.new-run.ensures) c.prove_each.ensures.proves
