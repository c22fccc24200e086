-- At each line of a job's log the mesh has the limits of the job's scale.
use Rattle.std.proofs.Common.{◌≡◌, ℕ, List, Ok, Err, refl}
use Rattle.std.specs.Prelude.{Result}
use Rattle.mesh_base.specs.declared.Limits.{Limits}
use Rattle.mesh_base.specs.declared.Scale.{Scale}
use Rattle.mesh_base.specs.Limits.{limits_of}
use Rattle.line_text.specs.declared.TextFault.{TextFault}
use Rattle.obj_text.specs.Obj.{Lists, lists_of}
use Rattle.log_text.specs.declared.LogLine.{LogLine}
use Rattle.log_replay.specs.Replay.{after}
use Rattle.log_replay.specs.Laws.{HaveLimits}
use Rattle.log_replay.proofs.Limits.{limits-after}
use Rattle.track_input.specs.Source.{Source, Bytes, Absent, TooLong}
use Rattle.track_input.specs.Job.{Job, mesh_read, mesh_in}
use Rattle.track_run.specs.Job.{replay_of}

limits_read : (scale : Scale) (read : Result Lists TextFault) → (mesh_read scale read).limits ≡ limits_of scale
limits_read scale (Ok lists) = refl
limits_read scale (Err fault) = refl

limits_in : (scale : Scale) (decimals : ℕ) (source : Source) → (mesh_in scale decimals source).limits ≡ limits_of scale
limits_in scale decimals (Bytes bytes) = limits_read scale (lists_of decimals bytes)
limits_in scale decimals Absent = refl
limits_in scale decimals (TooLong seen) = refl

pub keeps_scale : (job : Job) (lines : List LogLine) → (after (replay_of job) lines).mesh.limits ≡ limits_of job.scale
keeps_scale job lines = (limits-after (λ l. l ≡ limits_of job.scale) (replay_of job) lines start).mesh
  where
    start : HaveLimits (λ l. l ≡ limits_of job.scale) (replay_of job)
    start = record { mesh = limits_in job.scale job.decimals job.mesh_file; groups = tt }
