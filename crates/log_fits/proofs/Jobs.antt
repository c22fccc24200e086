-- The logs of meshes and of jobs fit.
use Rattle.std.proofs.Common.{◌≡◌, ℕ, false, List, map, length, Option, Some, None, Result, Ok, Err, refl, ap, sym, ◌∙◌}
use Rattle.std.proofs.lemmas.List.{length-map}
use Rattle.grid_base.specs.Points.{point_at}
use Rattle.mesh_base.specs.declared.PairName.{PairName}
use Rattle.mesh_base.specs.declared.Scale.{Scale}
use Rattle.mesh_base.specs.declared.ShapeFault.{ShapeFault}
use Rattle.mesh_base.specs.Mesh.{Mesh, IsSound}
use Rattle.mesh_base.specs.Sides.{IsClosed}
use Rattle.mesh_shape.specs.Shape.{shape_fault}
use Rattle.mesh_shape.proofs.Lists.{sound-mesh_under}
use Rattle.mesh_shape.proofs.Faults.{closed-mesh_under}
use Rattle.pair_scan.proofs.Clear.{clear_exactly}
use Rattle.line_text.specs.declared.TextFault.{TextFault}
use Rattle.obj_text.specs.Obj.{Lists, lists_of}
use Rattle.step_text.specs.declared.Placed.{Placed}
use Rattle.step_text.specs.Ranges.{AreInRange, AreNested}
use Rattle.step_text.specs.Steps.{steps_of}
use Rattle.step_text.proofs.StepLaws.{steps_are_in_range_lem}
use Rattle.track_input.specs.Source.{Source, Bytes, Absent, TooLong}
use Rattle.track_input.specs.Job.{mesh_of_lists, mesh_read, mesh_in, met_first}
use Rattle.log_replay.specs.Replay.{at_mesh}
use Rattle.track_engine.specs.State.{start}
use Rattle.track_engine.specs.Answers.{Answers}
use Rattle.track_engine.proofs.Keeping.{kept_start}
use Rattle.track_engine.proofs.Limits.{limits_start}
use Rattle.track_run.specs.Job.{log_of_test}
use Rattle.track_run.proofs.JobLogs.{log_of_steps, log_of_shape, log_of_lists, log_of_files}
use Rattle.log_fits.specs.Fitting.{LinesFit, LogsOfMeshesFit, LogsOfJobsFit}
use Rattle.log_fits.proofs.Lines.{told}
use Rattle.log_fits.proofs.Effects.{fits_from}

pub mesh_logs_fit : LogsOfMeshesFit
mesh_logs_fit answers m steps good range nested = (tt, ((refl, refl, refl), fits_from answers steps (start m) 0 nested range (limits_start m) (kept_start m good)))

fits_meeting : (answers : Answers) (m : Mesh) (steps : List Placed) (o : Option PairName) → met_first m ≡ o → IsSound m → IsClosed m → AreInRange steps → AreNested 0 steps 0 → LinesFit (told false (at_mesh m)) (log_of_test answers m steps o).lines
fits_meeting answers m steps (Some pair) e sound closed range nested = (tt, tt)
fits_meeting answers m steps None e sound closed range nested =
    (mesh_logs_fit answers m steps (record { sound = sound; closed = closed; clear = (clear_exactly m None sound (sym e)).0 refl }) range nested).1

fits_steps : (scale : Scale) (answers : Answers) (lists : Lists) (bytes : List ℕ) (r : Result (List Placed) TextFault) → steps_of bytes ≡ r → IsSound (mesh_of_lists scale lists) → IsClosed (mesh_of_lists scale lists) → LinesFit (told false (at_mesh (mesh_of_lists scale lists))) (log_of_steps scale answers lists r).lines
fits_steps scale answers lists bytes (Ok steps) read sound closed =
    let are = steps_are_in_range_lem bytes steps read in
    fits_meeting answers (mesh_of_lists scale lists) steps (met_first (mesh_of_lists scale lists)) refl sound closed are.0 are.2
fits_steps scale answers lists bytes (Err fault) read sound closed = (tt, tt)

fits_shape : (scale : Scale) (answers : Answers) (lists : Lists) (o : Option ShapeFault) (steps : List ℕ) → shape_fault scale (length lists.points) lists.faces ≡ o → LinesFit (told false (at_mesh (mesh_of_lists scale lists))) (log_of_shape scale answers lists o steps).lines
fits_shape scale answers lists (Some fault) steps e = (tt, tt)
fits_shape scale answers lists None steps e =
    let points = map point_at lists.points in
    let none : shape_fault scale (length points) lists.faces ≡ None = ap (λ n. shape_fault scale n lists.faces) (length-map lists.points point_at) ∙ e in
    fits_steps scale answers lists steps (steps_of steps) refl (sound-mesh_under scale points lists.faces none) (closed-mesh_under scale points lists.faces none)

fits_lists : (scale : Scale) (answers : Answers) (r : Result Lists TextFault) (steps : List ℕ) → LinesFit (told false (at_mesh (mesh_read scale r))) (log_of_lists scale answers r steps).lines
fits_lists scale answers (Err fault) steps = (tt, tt)
fits_lists scale answers (Ok lists) steps = fits_shape scale answers lists (shape_fault scale (length lists.points) lists.faces) steps refl

fits_files : (scale : Scale) (answers : Answers) (decimals : ℕ) (mesh steps : Source) → LinesFit (told false (at_mesh (mesh_in scale decimals mesh))) (log_of_files scale answers decimals mesh steps).lines
fits_files scale answers decimals (TooLong seen) steps = (tt, tt)
fits_files scale answers decimals Absent steps = (tt, tt)
fits_files scale answers decimals (Bytes mesh) (TooLong seen) = (tt, tt)
fits_files scale answers decimals (Bytes mesh) Absent = (tt, tt)
fits_files scale answers decimals (Bytes mesh) (Bytes steps) = fits_lists scale answers (lists_of decimals mesh) steps

pub job_logs_fit : LogsOfJobsFit
job_logs_fit job answers = (tt, fits_files job.scale answers job.decimals job.mesh_file job.step_file)
