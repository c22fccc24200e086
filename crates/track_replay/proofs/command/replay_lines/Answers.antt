use Rattle.std.proofs.Common.{refl, ap, sym, subst}
use Rattle.mesh_base.specs.Mesh.{Mesh}
use Rattle.mesh_journal.specs.Journal.{mesh_in}
use Rattle.log_run.specs.Laws.{IsValidState}
use Rattle.log_run.specs.States.{LogState}
use Rattle.track_engine.specs.Targets.{target_of}
use Rattle.track_replay.specs.Headline.{ReplaysLines}
use Rattle.track_replay.proofs.command.replay_lines.Goals as goal

pub replay_each-requires-clause-fresh : goal.replay_each-requires-clause-fresh
replay_each-requires-clause-fresh g c = rw c.new-run.ensures refl

pub replay_each-requires-clause-valid : goal.replay_each-requires-clause-valid
replay_each-requires-clause-valid g c = subst IsValidState (sym c.new-run.ensures) (c.fitting_lines_are_safe.ensures.first (mesh_in c.args.mesh) c.requires.valid)

pub returns : goal.returns
returns g c =
    let P : Mesh → Type 0 = λ m. ReplaysLines c.args.only (target_of c.args.to) m c.args.lines (g.O.Outside.around c.args.outside.now) (g.O.Outside.around c.replay_each.new.outside) c.replay_each.result in
    subst P (ap (λ (s : LogState). s.replay.mesh) c.new-run.ensures) c.replay_each.ensures
