-- The headline: what a run does.
use Rattle.std.specs.Prelude.{◌≡◌, ◌≤◌, ◌⊎◌, ℕ, List, is_ok, Option, Some, None, Result, Ok, Err}
use Rattle.mesh_base.specs.declared.Scale.{Scale}
use Rattle.mesh_base.specs.Limits.{limits_of}
use Rattle.step_text.specs.declared.Directive.{Directive}
use Rattle.step_text.specs.declared.Directive.TheVariants as directive
use Rattle.log_text.specs.declared.LogLine.{LogLine}
use Rattle.log_text.specs.declared.Refusal.{Refusal}
use Rattle.log_text.specs.Lines.{text_of_lines}
use Rattle.log_read.specs.Reading.{log_of as lines_of_text}
use Rattle.log_replay.specs.Replay.{after}
use Rattle.log_replay.specs.Again.{LinesAreAgain}
use Rattle.outside_io.specs.Causes.{Rose}
use Rattle.outside_io.specs.Sink.{appended, AppendsPart}
use Rattle.track_convert.specs.Headline.{Converts}
use Rattle.track_try.specs.Summary.{summary_of}
use Rattle.track_input.specs.Words.{MeshName, LogNames, ProofNames, ReplayNames, Named, Track}
use Rattle.track_input.specs.Words.{Convert, Try, Measure, Prove, Verify, Replay, Check}
use Rattle.track_input.specs.Taken.{IsReading}
use Rattle.track_input.specs.Commands.{IsReadExactly}
use Rattle.track_input.specs.Job.{Job, IsJob, input_of}
use Rattle.outside_io.specs.declared.stop.Stop.{Stop}
use Rattle.outside_io.specs.declared.stop.Stop.TheVariants.{DeskFault}
use Rattle.track_log.specs.declared.LogRefusal.{LogRefusal}
use Rattle.track_measure.specs.Headline.{Measures}
use Rattle.track_prove.specs.Headline.{Proves, Verifies}
use Rattle.track_replay.specs.Headline.{Replays}
use Rattle.track_check.specs.Headline.{Checks}
use Rattle.track_engine.specs.State.{State, standing}
use Rattle.track_engine.specs.Answers.{Answer, Answers}
use Rattle.track_engine.specs.Answered.{Known}
use Rattle.track_engine.specs.Effects.{Proceeds, effect_of}
use Rattle.track_engine.specs.Saved.{Target}
use Rattle.track_engine.specs.Kept.{LogIsSafe}
use Rattle.track_engine.specs.Promise.{StepIsTold}
use Rattle.track_engine.specs.World.{World, Contents, Follows}
use Rattle.track_run.specs.declared.outcome.Outcome.{Outcome}
use Rattle.track_run.specs.declared.outcome.Outcome.TheVariants as outcome
use Rattle.track_run.specs.Job.{log_of, replay_of}
use Rattle.track_run.specs.Reached.{IsReached, AgreesWithReplay}
use Rattle.track_run.specs.Outcomes.{outcome_from, outcome_of_try, outcome_by_log}
use Rattle.track_run.specs.Answered.{IsInputAnswered}
use Rattle.track_run.specs.Causes.{Cause, IsStopped, answers_after}

-- THE HEADLINE, read from here down, each part explained where it stands. A run of a job writes the
-- job's log and stores the meshes that it names, or, where it is stopped, the first of it and not
-- the whole, and nothing beyond a drive or an edge that was not answered; the log keeps what it
-- promises; and the outcome has its cause in the job.

-- What holds of each directive, in whichever state it is taken, whatever is given to it. A step
-- whose pairs all pass is taken unaltered; otherwise each pair that does not pass is logged, and it
-- is taken by the first way that applies. The lines of a directive, replayed from where the run
-- stood before it, lead to where it stands after it.
pub record DirectivesAreTold : Type 0 where
  pub steps : (given : Answer) (s next : State) (lines : List LogLine) →
      effect_of given directive.Step s ≡ Proceeds lines next →
      StepIsTold s lines
  pub replayed : (given : Answer) (d : Directive) (s next : State) (lines : List LogLine) →
      effect_of given d s ≡ Proceeds lines next →
      after (standing s) lines ≡ standing next

-- What the log of a job promises. In every mesh that it saves no edge meets a face that shares no
-- vertex with it, and the mesh is closed, with the live numbers that its line tells; and its text
-- is read again as that mesh, numbered anew, by a job of each scale that has room for it. At each
-- line the mesh has the limits of the job's scale, so that a run of that scale takes it as its own.
-- Every motion and
-- every edit that it tells begins and ends in a mesh that is sound, closed and clear, and is clear
-- on the way: at every fraction, of a pinch above zero, of a collapse below one; a zip has none.
-- None moves a solid vertex. All this can be done again by the log alone: each `move` line names a
-- live vertex that is not solid and was not named before in its step, and ends in the box; each
-- pair of a motion passes, tested to the greatest depth; and each edit, asked for again by what its
-- line tells and tested to that depth, is done with the same ids, points and turn. Wherever a run
-- of the job stands between two directives, the replay of the log up to there stands too, so the
-- pairs of a step are tested in the mesh that the log tells; that mesh, and each at which a group
-- that is still open was opened, is sound, closed and clear, with a shift asked of each live
-- vertex, and none of a solid one; and the settings are within their limits.
pub record LogPromises (job : Job) (answers : Answers) : Type 0 where
  pub safe : LogIsSafe (replay_of job) (log_of job answers).lines
  pub scaled : (lines : List LogLine) →
      (after (replay_of job) lines).mesh.limits ≡ limits_of job.scale
  pub again : LinesAreAgain (replay_of job) (log_of job answers).lines
  pub told : DirectivesAreTold
  pub reached : (s : State) (there : IsReached job answers s) →
      AgreesWithReplay job answers s there.rest (answers_after there.front answers)

-- The outcome has its cause in the job and in what fields and the sizing answered, and there is a
-- cause for no other outcome but those that stop a run.
pub record IsCaused (job : Job) (answers : Answers) (result : Outcome) : Type 0 where
  pub cause : Cause job answers result
  pub no_other : (other : Outcome) → Cause job answers other →
      (result ≡ other) ⊎ IsStopped other ⊎ IsStopped result

-- A run of a job: what the stored fields answered to its directives, each asked where its
-- vertices then stood, and the sizing, asked at the turn of each edge at the edge's
-- middle, how it ended, the lines that
-- it wrote and the meshes that it stored, what its log promises, and why it has its outcome.
pub record Tracks (fields : Known) (job : Job) (to : Target) (result : Outcome) (old new : Contents)
    : Type 0 where
  pub answers : Answers
  pub ended : Result (Option Refusal) Stop
  pub answered : IsInputAnswered job.scale fields (is_ok ended) answers (input_of job)
  pub outcome_is : result ≡ outcome_from ended
  pub log : Follows to (replay_of job) (log_of job answers) old new ended
  pub promises : LogPromises job answers
  pub caused : IsCaused job answers result

-- No count of faults has fallen, and at a fault the one of its side has risen.
pub record FaultsAreCounted (old new : World) (result : Outcome) : Type 0 where
  pub desk : old.desk_faults ≤ new.desk_faults
  pub sink : old.sink_faults ≤ new.sink_faults
  pub desk_fault : result ≡ outcome.DeskFault → Rose old.desk_faults new.desk_faults
  pub sink_fault : result ≡ outcome.SinkFault → Rose old.sink_faults new.sink_faults

-- The text of a job's log is read as exactly its lines by a command
-- of the same scale, so whoever reads the log reads what it promises.
abbrev pub IsReadBack : Job → Answers → Type 0
IsReadBack job answers =
    lines_of_text job.scale (text_of_lines (log_of job answers).lines)
    ≡ Ok (log_of job answers).lines

-- the job of a command, which is what the desk held at entry, is tracked
pub record TracksCommand (scale : Scale) (fields : Known) (mesh_name step_name : List ℕ)
    (to : Target) (result : Outcome) (old new : World) : Type 0 where
  pub job : Job
  pub is_job : IsJob scale old.holds.files mesh_name step_name to.decimals job
  pub tracks : Tracks fields job to result old.holds new.holds
  pub read_back : IsReadBack job tracks.answers
  pub faults : FaultsAreCounted old new result

-- the mesh of the one file is converted to the other; the parts are
-- explained where `Converts` stands
pub record ConvertsCommand (scale : Scale) (from to : MeshName) (decimals : ℕ) (result : Outcome)
    (old new : World) : Type 0 where
  pub ended : Result (Option Refusal) Stop
  pub outcome_is : result ≡ outcome_from ended
  pub converts : Converts scale from to decimals ended old new

-- the text is written whole, or the first of it, perhaps nothing, and not all
abbrev pub IsWrittenBy : {T E : Type 0} → List ℕ → Result T E → Option (List ℕ) → Option (List ℕ) →
    Type 0
IsWrittenBy text (Ok done) old new = new ≡ appended old text
IsWrittenBy text (Err fault) old new = AppendsPart old new text

-- The job of so many cubes in a row and of this key is made and run, and the summary of its log is
-- written, or a part of it where the try is stopped. The desk is left alone, and is not at fault.
-- At a fault of the sink its count has risen.
pub record TriesCommand (cubes key : ℕ) (result : Outcome) (old new : World) : Type 0 where
  pub ended : Result (Unit {0}) Stop
  pub outcome_is : result ≡ outcome_of_try ended
  pub summary : IsWrittenBy (summary_of cubes key) ended old.holds.written new.holds.written
  pub files : new.holds.files ≡ old.holds.files
  pub desk : new.desk_faults ≡ old.desk_faults
  pub no_desk : ended ≡ Err DeskFault → ⊥
  pub sink : old.sink_faults ≤ new.sink_faults
  pub sink_fault : result ≡ outcome.SinkFault → Rose old.sink_faults new.sink_faults

-- the log of the one file is measured, from the mesh of the other on; the parts are
-- explained where `Measures` stands
pub record MeasuresCommand (names : LogNames) (result : Outcome) (old new : World) : Type 0 where
  pub ended : Result (Option LogRefusal) Stop
  pub outcome_is : result ≡ outcome_by_log ended
  pub measures : Measures names ended old new

-- the motions of the log of the one file are proved, from the mesh of the other on; the parts
-- are explained where `Proves` stands
pub record ProvesCommand (names : LogNames) (result : Outcome) (old new : World) : Type 0 where
  pub ended : Result (Option LogRefusal) Stop
  pub outcome_is : result ≡ outcome_by_log ended
  pub proves : Proves names ended old new

-- the proof of the third file is checked, of the motions of that log; the parts are
-- explained where `Verifies` stands
pub record VerifiesCommand (names : ProofNames) (result : Outcome) (old new : World) : Type 0 where
  pub ended : Result (Option LogRefusal) Stop
  pub outcome_is : result ≡ outcome_by_log ended
  pub verifies : Verifies names ended old new

-- the meshes of the log of the one file are made again, from the mesh of the other on, and stored;
-- the parts are explained where `Replays` stands
pub record ReplaysCommand (names : ReplayNames) (result : Outcome) (old new : World) : Type 0 where
  pub ended : Result (Option LogRefusal) Stop
  pub outcome_is : result ≡ outcome_by_log ended
  pub replays : Replays names ended old new

-- it is told what is wrong with the mesh of the file; the parts are explained where `Checks` stands
pub record ChecksCommand (scale : Scale) (mesh : MeshName) (decimals : ℕ) (result : Outcome)
    (old new : World) : Type 0 where
  pub ended : Result (Option Refusal) Stop
  pub outcome_is : result ≡ outcome_from ended
  pub checks : Checks scale mesh decimals ended old new

-- a run for a command with these stored fields and this sizing, or for none: then nothing is done
abbrev pub Runs : Known → Option Named → Outcome → World → World → Type 0
Runs fields None result old new = (result ≡ outcome.Usage) × (new ≡ old)
Runs fields (Some (Track mesh steps prefix scale decimals)) result old new =
    let to : Target = record { prefix = prefix; decimals = decimals } in
    TracksCommand scale fields mesh steps to result old new
Runs fields (Some (Convert from to scale decimals)) result old new =
    ConvertsCommand scale from to decimals result old new
Runs fields (Some (Try cubes key)) result old new = TriesCommand cubes key result old new
Runs fields (Some (Measure names)) result old new = MeasuresCommand names result old new
Runs fields (Some (Prove names)) result old new = ProvesCommand names result old new
Runs fields (Some (Verify names)) result old new = VerifiesCommand names result old new
Runs fields (Some (Replay names)) result old new = ReplaysCommand names result old new
Runs fields (Some (Check mesh scale decimals)) result old new =
    ChecksCommand scale mesh decimals result old new

-- a run for what the words are read as: a command, or none where they are of no listed form
pub record RunsReading (fields : Known) (words : List (List ℕ)) (result : Outcome) (old new : World)
    : Type 0 where
  pub named : Option Named
  pub read : IsReading words named
  pub exact : IsReadExactly words named
  pub runs : Runs fields named result old new

-- A run for these words; or there was no memory to read them, and nothing is done.
abbrev pub RunsFor : Known → List (List ℕ) → Outcome → World → World → Type 0
RunsFor fields words result old new =
    RunsReading fields words result old new ⊎ ((result ≡ outcome.NoMemory) × (new ≡ old))

-- what a job's run writes and stores as the fields and the sizing answer, by how it ended
pub record TracksJob (scale : Scale) (fields : Known) (mesh_name step_name : List ℕ) (to : Target)
    (old new : Contents) (result : Result (Option Refusal) Stop) : Type 0 where
  pub job : Job
  pub is_job : IsJob scale old.files mesh_name step_name to.decimals job
  pub answers : Answers
  pub answered : IsInputAnswered job.scale fields (is_ok result) answers (input_of job)
  pub follows : Follows to (replay_of job) (log_of job answers) old new result
