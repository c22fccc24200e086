-- The headline: what a measurement of a log does.
use Rattle.std.specs.Prelude.{◌≡◌, ◌⊎◌, ℕ, ◌-◌, List, [], ◌++◌, Option, Some, None, Result, Ok, Err}
use Rattle.outside_io.specs.declared.stop.Stop.{Stop}
use Rattle.outside_io.specs.Outside.{HasCauses}
use Rattle.outside_io.specs.Sink.{appended, AppendsPart}
use Rattle.outside_io.specs.World.{World}
use Rattle.track_input.specs.Words.{LogNames}
use Rattle.track_log.specs.declared.refusal.LogRefusal.{LogRefusal}
use Rattle.track_log.specs.declared.refusal.LogRefusal.TheVariants.{Replay}
use Rattle.track_log.specs.LogJob.{LogJob, IsLogJob, LogInput, input_of}
use Rattle.track_log.specs.Taking.{FitsTested}
use Rattle.track_log.specs.Ending.{EndsBy}
use Rattle.track_log.specs.Refused.{refused_text}
use Rattle.track_measure.specs.MeasureLines.{measure_lines, lines_of_first}
use Rattle.track_measure.specs.Texts.{text_of_all}

-- THE HEADLINE, read from here down. A measurement writes what each line of a log tells, up to the
-- end or to the first line that does not fit, of which the refusal is written last; or the refusal
-- of what was given, and nothing else; or it is stopped, and then it wrote the first bytes of
-- that, and not all. Nothing is stored.

-- what is written in whole by a measurement of what was given that has this ending
abbrev pub text_told : Result LogInput LogRefusal → Option LogRefusal → List ℕ
text_told (Ok input) None = text_of_all (measure_lines input.mesh input.lines)
text_told (Ok input) (Some (Replay line)) =
    text_of_all (lines_of_first (line - 1) input.mesh input.lines) ++ refused_text (Replay line)
text_told input (Some why) = refused_text why
text_told (Err why) None = []

-- What is written of what was given: the ending is that of a replay that tests each step, and its
-- text is written; or the measurement is stopped, and the text of whatever ending the replay has is
-- written in part, perhaps nothing of it, and not all.
abbrev pub IsToldOf : Result LogInput LogRefusal → Option (List ℕ) → Option (List ℕ) →
    Result (Option LogRefusal) Stop → Type 0
IsToldOf input old new (Ok ending) =
    EndsBy FitsTested input ending × (new ≡ appended old (text_told input ending))
IsToldOf input old new (Err stop) = (ending : Option LogRefusal) → EndsBy FitsTested input ending →
    AppendsPart old new (text_told input ending)

-- the measurement was stopped
abbrev pub IsStopped : Result (Option LogRefusal) Stop → Type 0
IsStopped (Ok ending) = ⊥
IsStopped (Err stop) = Unit {0}

-- The log that the desk held at entry under the one name is measured, from
-- the mesh under the other name on.
pub record Measures (names : LogNames) (result : Result (Option LogRefusal) Stop) (old new : World)
    : Type 0 where
  pub job : LogJob
  pub is_job : IsLogJob old.holds.files names job
  pub told : IsToldOf (input_of job) old.holds.written new.holds.written result
  pub only : (ending : Option LogRefusal) → EndsBy FitsTested (input_of job) ending →
      (result ≡ Ok ending) ⊎ IsStopped result
  pub files : new.holds.files ≡ old.holds.files
  pub faults : HasCauses old new result
