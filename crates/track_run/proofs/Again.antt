-- What the log of a job tells of motions and of edits can be done again.
use Rattle.std.proofs.Common.{◌≡◌, ℕ, List, map, length, Option, Some, None, Result, Ok, Err, refl, ap, sym, ◌∙◌}
use Rattle.std.proofs.lemmas.List.{length-map}
use Rattle.grid_base.specs.Points.{point_at}
use Rattle.mesh_base.specs.declared.PairName.{PairName}
use Rattle.mesh_base.specs.declared.ShapeFault.{ShapeFault}
use Rattle.mesh_base.specs.declared.Scale.{Scale}
use Rattle.mesh_base.specs.Mesh.{Mesh, IsSound}
use Rattle.mesh_base.specs.Sides.{IsClosed}
use Rattle.mesh_shape.specs.Shape.{shape_fault}
use Rattle.mesh_shape.proofs.Lists.{sound-mesh_under}
use Rattle.mesh_shape.proofs.Faults.{closed-mesh_under}
use Rattle.pair_scan.proofs.Clear.{clear_exactly}
use Rattle.line_text.specs.declared.TextFault.{TextFault}
use Rattle.obj_text.specs.Obj.{Lists, lists_of}
use Rattle.step_text.specs.declared.Placed.{Placed}
use Rattle.step_text.specs.Ranges.{AreInRange}
use Rattle.step_text.specs.Steps.{steps_of}
use Rattle.step_text.proofs.StepLaws.{steps_are_in_range_lem}
use Rattle.track_input.specs.Source.{Source, Bytes, Absent, TooLong}
use Rattle.track_input.specs.Job.{Job, mesh_of_lists, mesh_read, mesh_in, met_first}
use Rattle.log_replay.specs.Replay.{at_mesh}
use Rattle.log_replay.specs.Again.{LinesAreAgain}
use Rattle.track_engine.specs.State.{start}
use Rattle.track_engine.specs.Answers.{Answers}
use Rattle.track_engine.proofs.Keeping.{kept_start}
use Rattle.track_engine.proofs.Limits.{limits_start}
use Rattle.track_engine.proofs.Again.{told_again}
use Rattle.track_run.specs.Job.{log_of, log_of_test, replay_of}
use Rattle.track_run.proofs.JobLogs.{log_of_steps, log_of_shape, log_of_lists, log_of_files}

again_meeting : (answers : Answers) (m : Mesh) (steps : List Placed) (o : Option PairName) → met_first m ≡ o → IsSound m → IsClosed m → AreInRange steps → LinesAreAgain (at_mesh m) (log_of_test answers m steps o).lines
again_meeting answers m steps (Some pair) e sound closed range = (tt, tt)
again_meeting answers m steps None e sound closed range =
    (tt, told_again answers steps (start m) range (limits_start m) (kept_start m (record { sound = sound; closed = closed; clear = (clear_exactly m None sound (sym e)).0 refl })))

again_steps : (scale : Scale) (answers : Answers) (lists : Lists) (bytes : List ℕ) (r : Result (List Placed) TextFault) → steps_of bytes ≡ r → IsSound (mesh_of_lists scale lists) → IsClosed (mesh_of_lists scale lists) → LinesAreAgain (at_mesh (mesh_of_lists scale lists)) (log_of_steps scale answers lists r).lines
again_steps scale answers lists bytes (Ok steps) read sound closed = again_meeting answers (mesh_of_lists scale lists) steps (met_first (mesh_of_lists scale lists)) refl sound closed (steps_are_in_range_lem bytes steps read).0
again_steps scale answers lists bytes (Err fault) read sound closed = (tt, tt)

again_shape : (scale : Scale) (answers : Answers) (lists : Lists) (o : Option ShapeFault) (steps : List ℕ) → shape_fault scale (length lists.points) lists.faces ≡ o → LinesAreAgain (at_mesh (mesh_of_lists scale lists)) (log_of_shape scale answers lists o steps).lines
again_shape scale answers lists (Some fault) steps e = (tt, tt)
again_shape scale answers lists None steps e =
    let points = map point_at lists.points in
    let none : shape_fault scale (length points) lists.faces ≡ None = ap (λ n. shape_fault scale n lists.faces) (length-map lists.points point_at) ∙ e in
    again_steps scale answers lists steps (steps_of steps) refl (sound-mesh_under scale points lists.faces none) (closed-mesh_under scale points lists.faces none)

again_lists : (scale : Scale) (answers : Answers) (r : Result Lists TextFault) (steps : List ℕ) → LinesAreAgain (at_mesh (mesh_read scale r)) (log_of_lists scale answers r steps).lines
again_lists scale answers (Err fault) steps = (tt, tt)
again_lists scale answers (Ok lists) steps = again_shape scale answers lists (shape_fault scale (length lists.points) lists.faces) steps refl

again_files : (scale : Scale) (answers : Answers) (decimals : ℕ) (mesh steps : Source) → LinesAreAgain (at_mesh (mesh_in scale decimals mesh)) (log_of_files scale answers decimals mesh steps).lines
again_files scale answers decimals (TooLong seen) steps = (tt, tt)
again_files scale answers decimals Absent steps = (tt, tt)
again_files scale answers decimals (Bytes mesh) (TooLong seen) = (tt, tt)
again_files scale answers decimals (Bytes mesh) Absent = (tt, tt)
again_files scale answers decimals (Bytes mesh) (Bytes steps) = again_lists scale answers (lists_of decimals mesh) steps

pub log_again : (answers : Answers) (job : Job) → LinesAreAgain (replay_of job) (log_of job answers).lines
log_again answers job = (tt, again_files job.scale answers job.decimals job.mesh_file job.step_file)
