-- When a job has one log, whichever run of it is looked at.
use Rattle.std.specs.Prelude.{◌≡◌, ℕ, true, List, map, Some}
use Rattle.grid_base.specs.declared.Point.{Point}
use Rattle.grid_base.specs.declared.Shift.{Shift}
use Rattle.mesh_base.specs.declared.Scale.{Scale}
use Rattle.mesh_sizing.specs.declared.sizing.Band.{Band}
use Rattle.log_text.specs.declared.LogLine.{LogLine}
use Rattle.log_text.specs.declared.LogLine.TheVariants.{Refused}
use Rattle.log_text.specs.declared.Refusal.{Refusal}
use Rattle.log_text.specs.declared.Refusal.TheVariants.{Long}
use Rattle.outside_io.specs.Desk.{Files}
use Rattle.track_input.specs.Job.{Job, IsJob, input_of}
use Rattle.track_engine.specs.Answers.{Answers}
use Rattle.track_engine.specs.Answered.{Known}
use Rattle.track_engine.specs.Effects.{Ending, Ended, ExpectedLog}
use Rattle.track_run.specs.Answered.{IsInputAnswered}
use Rattle.track_run.specs.Job.{log_of}

-- each field has at most one answer at each point, and so has the sizing
pub record HaveOneAnswer (fields : Known) : Type 0 where
  pub shifts : (which : ℕ) (p : Point) (one other : Shift) → fields.may_answer which p one
      → fields.may_answer which p other → one ≡ other
  pub bands : (p : Point) (one other : Band) → fields.may_size p one → fields.may_size p other
      → one ≡ other

-- Then a job of which the directives are all answered has one log, by whatever answers it was had.
abbrev pub JobsHaveOneLog : Known → Type 0
JobsHaveOneLog fields =
    HaveOneAnswer fields → (job : Job) (one other : Answers)
    → IsInputAnswered job.scale fields true one (input_of job)
    → IsInputAnswered job.scale fields true other (input_of job)
    → log_of job one ≡ log_of job other

-- ---- two jobs of the same files
-- how much was seen of a file that is too long is left out
abbrev pub unseen : Refusal → Refusal
unseen (Long file seen) = Long file 0
unseen why = why

-- the same of a line of a log
abbrev pub unseen_line : LogLine → LogLine
unseen_line (Refused why) = Refused (unseen why)
unseen_line line = line

-- and of the ending of a log
abbrev pub unseen_ending : Ending → Ending
unseen_ending (Ended (Some why)) = Ended (Some (unseen why))
unseen_ending ending = ending

-- a log, but for how much was seen of a file that is too long
abbrev pub unseen_log : ExpectedLog → ExpectedLog
unseen_log log = record {
  lines = map unseen_line log.lines;
  ending = unseen_ending log.ending;
}

-- Two jobs of the same names where the same files lie, with the same scale and decimals, have one
-- log, but for how much was seen of a file that is too long.
abbrev pub JobsOfTheSameFilesHaveOneLog : Known → Type 0
JobsOfTheSameFilesHaveOneLog fields =
    HaveOneAnswer fields → (scale : Scale) (files : Files) (mesh_name step_name : List ℕ)
    (decimals : ℕ) (job also : Job) (one other : Answers)
    → IsJob scale (Some files) mesh_name step_name decimals job
    → IsJob scale (Some files) mesh_name step_name decimals also
    → IsInputAnswered job.scale fields true one (input_of job)
    → IsInputAnswered also.scale fields true other (input_of also)
    → unseen_log (log_of job one) ≡ unseen_log (log_of also other)
