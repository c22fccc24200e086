-- The log of the parts of a job: each goes on to its end, and each keeps its promise.
use Rattle.std.proofs.Common.{◌≡◌, ℕ, List, map, length, Option, Some, None, Result, Ok, Err, refl, ap, sym, ◌∙◌, inl}
use Rattle.std.proofs.lemmas.List.{length-map}
use Rattle.grid_base.specs.Points.{point_at}
use Rattle.mesh_base.specs.declared.PairName.{PairName}
use Rattle.mesh_base.specs.declared.ShapeFault.{ShapeFault}
use Rattle.mesh_base.specs.declared.Scale.{Scale}
use Rattle.mesh_base.specs.Mesh.{Mesh, IsSound}
use Rattle.mesh_base.specs.Sides.{IsClosed}
use Rattle.mesh_base.specs.Valid.{IsValidSurface}
use Rattle.mesh_shape.specs.Shape.{shape_fault}
use Rattle.mesh_shape.proofs.Lists.{sound-mesh_under}
use Rattle.mesh_shape.proofs.Faults.{closed-mesh_under}
use Rattle.pair_scan.proofs.Clear.{clear_exactly}
use Rattle.line_text.specs.declared.TextFault.{TextFault}
use Rattle.obj_text.specs.Obj.{Lists, lists_of}
use Rattle.step_text.specs.declared.Placed.{Placed}
use Rattle.step_text.specs.Steps.{steps_of}
use Rattle.log_text.specs.declared.Refusal.{Refusal}
use Rattle.log_text.specs.declared.Refusal.TheVariants as refusal
use Rattle.track_input.specs.Source.{Source, Bytes, Absent, TooLong}
use Rattle.track_input.specs.Job.{Job, Input, input_of_files, input_of_lists, input_of_shape, input_of_steps, mesh_of_lists, mesh_read, mesh_in, met_first}
use Rattle.log_replay.specs.Replay.{at_mesh}
use Rattle.track_engine.specs.State.{start}
use Rattle.track_engine.specs.Answers.{Answers}
use Rattle.track_engine.specs.Effects.{ExpectedLog, log_from, mesh_line}
use Rattle.track_engine.specs.Kept.{LogIsSafe}
use Rattle.track_engine.proofs.Worlds.{GoesOn, one_line}
use Rattle.track_engine.proofs.Remaining.{refusal_left}
use Rattle.track_engine.proofs.Keeping.{saved_well, keeps_told, kept_start}
use Rattle.track_run.specs.Job.{log_of, log_of_input, log_of_test, replay_of}

-- ---- the log of two files, of their texts and of their lists

abbrev pub log_of_steps : Scale → Answers → Lists → Result (List Placed) TextFault → ExpectedLog
log_of_steps scale answers lists steps = log_of_input scale answers (input_of_steps lists steps)

abbrev pub log_of_shape : Scale → Answers → Lists → Option ShapeFault → List ℕ → ExpectedLog
log_of_shape scale answers lists fault steps = log_of_input scale answers (input_of_shape lists fault steps)

abbrev pub log_of_lists : Scale → Answers → Result Lists TextFault → List ℕ → ExpectedLog
log_of_lists scale answers lists steps = log_of_input scale answers (input_of_lists scale lists steps)

abbrev pub log_of_files : Scale → Answers → ℕ → Source → Source → ExpectedLog
log_of_files scale answers decimals mesh steps = log_of_input scale answers (input_of_files scale decimals mesh steps)

-- ---- it goes on to its end

pub test_left : (answers : Answers) (m : Mesh) (steps : List Placed) (o : Option PairName) → GoesOn (log_of_test answers m steps o)
test_left answers m steps (Some pair) = refusal_left (refusal.Meets pair)
test_left answers m steps None = inl (one_line (mesh_line 0 m) (log_from answers steps (start m)).lines)

pub input_left : (scale : Scale) (answers : Answers) (r : Result Input Refusal) → GoesOn (log_of_input scale answers r)
input_left scale answers (Err why) = refusal_left why
input_left scale answers (Ok input) = test_left answers (mesh_of_lists scale input.lists) input.steps (met_first (mesh_of_lists scale input.lists))

-- ---- its lines keep their promises

keeps_meeting : (answers : Answers) (m : Mesh) (steps : List Placed) (o : Option PairName) → met_first m ≡ o → IsSound m → IsClosed m → LogIsSafe (at_mesh m) (log_of_test answers m steps o).lines
keeps_meeting answers m steps (Some pair) e sound closed = (tt, tt)
keeps_meeting answers m steps None e sound closed =
    let good : IsValidSurface m = record { sound = sound; closed = closed; clear = (clear_exactly m None sound (sym e)).0 refl } in
    (saved_well (at_mesh m) good, keeps_told answers steps (start m) (kept_start m good))

keeps_steps : (scale : Scale) (answers : Answers) (lists : Lists) (r : Result (List Placed) TextFault) → IsSound (mesh_of_lists scale lists) → IsClosed (mesh_of_lists scale lists) → LogIsSafe (at_mesh (mesh_of_lists scale lists)) (log_of_steps scale answers lists r).lines
keeps_steps scale answers lists (Ok steps) sound closed = keeps_meeting answers (mesh_of_lists scale lists) steps (met_first (mesh_of_lists scale lists)) refl sound closed
keeps_steps scale answers lists (Err fault) sound closed = (tt, tt)

keeps_shape : (scale : Scale) (answers : Answers) (lists : Lists) (o : Option ShapeFault) (steps : List ℕ) → shape_fault scale (length lists.points) lists.faces ≡ o → LogIsSafe (at_mesh (mesh_of_lists scale lists)) (log_of_shape scale answers lists o steps).lines
keeps_shape scale answers lists (Some fault) steps e = (tt, tt)
keeps_shape scale answers lists None steps e =
    let points = map point_at lists.points in
    let none : shape_fault scale (length points) lists.faces ≡ None = ap (λ n. shape_fault scale n lists.faces) (length-map lists.points point_at) ∙ e in
    keeps_steps scale answers lists (steps_of steps) (sound-mesh_under scale points lists.faces none) (closed-mesh_under scale points lists.faces none)

keeps_lists : (scale : Scale) (answers : Answers) (r : Result Lists TextFault) (steps : List ℕ) → LogIsSafe (at_mesh (mesh_read scale r)) (log_of_lists scale answers r steps).lines
keeps_lists scale answers (Err fault) steps = (tt, tt)
keeps_lists scale answers (Ok lists) steps = keeps_shape scale answers lists (shape_fault scale (length lists.points) lists.faces) steps refl

keeps_files : (scale : Scale) (answers : Answers) (decimals : ℕ) (mesh steps : Source) → LogIsSafe (at_mesh (mesh_in scale decimals mesh)) (log_of_files scale answers decimals mesh steps).lines
keeps_files scale answers decimals (TooLong seen) steps = (tt, tt)
keeps_files scale answers decimals Absent steps = (tt, tt)
keeps_files scale answers decimals (Bytes mesh) (TooLong seen) = (tt, tt)
keeps_files scale answers decimals (Bytes mesh) Absent = (tt, tt)
keeps_files scale answers decimals (Bytes mesh) (Bytes steps) = keeps_lists scale answers (lists_of decimals mesh) steps

pub keeps_log : (answers : Answers) (job : Job) → LogIsSafe (replay_of job) (log_of job answers).lines
keeps_log answers job = (tt, keeps_files job.scale answers job.decimals job.mesh_file job.step_file)
