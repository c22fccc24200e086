-- What the parts of a measurement write.
use Rattle.std.specs.Prelude.{◌≡◌, ◌⊎◌, Bool, true, false, ℕ, List, Option, Result, Ok, Err, OnErr, IfOk}
use Rattle.mesh_base.specs.Mesh.{Mesh}
use Rattle.log_text.specs.declared.LogLine.{LogLine}
use Rattle.outside_io.specs.declared.stop.Stop.{Stop}
use Rattle.outside_io.specs.Outside.{Around, StoresNothing, written_of}
use Rattle.outside_io.specs.Sink.{appended, AppendsPart}
use Rattle.log_run.specs.Fits.{LineFits}
use Rattle.log_run.specs.Laws.{IsValidState}
use Rattle.log_run.specs.States.{LogState, with_line}
use Rattle.track_log.specs.declared.refusal.LogRefusal.{LogRefusal}
use Rattle.track_log.specs.Taking.{FitsTested}
use Rattle.track_measure.specs.MeasureLines.{shape_of, measure_of_line}
use Rattle.track_measure.specs.Texts.{text_of_told}
use Rattle.track_measure.specs.Headline.{IsToldOf}

-- where it is so, a line that fits leaves the shape of the mesh
abbrev pub KeepsShape : Mesh → LogLine → Bool → Type 0
KeepsShape m line keeps =
    keeps ≡ true → (s : LogState) → s.replay.mesh ≡ m → IsValidState s → LineFits s line →
    shape_of (with_line s line).replay.mesh ≡ shape_of m

-- a text that may be empty is written, or nothing of it, or the first bytes of it
-- and not all; and nothing is stored
abbrev pub WritesNothingOrPart : List ℕ → Option (List ℕ) → Option (List ℕ) → Type 0
WritesNothingOrPart text old new = (new ≡ old) ⊎ AppendsPart old new text

-- a call writes its text, or at a stop nothing or a part of it; and nothing is stored
pub record TellsSome {T : Type 0} (text : List ℕ) (old new : Around)
    (result : Result T Stop) : Type 0 where
  pub whole : IfOk result (λ done. written_of new ≡ appended (written_of old) text)
  pub part : OnErr result (WritesNothingOrPart text (written_of old) (written_of new))
  pub nothing_stored : StoresNothing old new result

-- what a line tells that is taken where a replay stands
abbrev pub line_text : ℕ → LogState → LogLine → List ℕ
line_text number s line =
    text_of_told (measure_of_line number (shape_of s.replay.mesh) (with_line s line).replay.mesh line)

-- a line fits, and what it tells is written; or it does not, and nothing is; or it stops, and
-- nothing is written, or the line fits and a part of what it tells is
abbrev pub WritesLine : ℕ → LogState → LogLine → Option (List ℕ) → Option (List ℕ) →
    Result Bool Stop → Type 0
WritesLine number s line old new (Ok true) =
    FitsTested s line × (new ≡ appended old (line_text number s line))
WritesLine number s line old new (Ok false) = (¬ FitsTested s line) × (new ≡ old)
WritesLine number s line old new (Err stop) =
    (new ≡ old) ⊎ (FitsTested s line × AppendsPart old new (line_text number s line))

-- that, and nothing is stored
pub record MeasuresLine (number : ℕ) (s : LogState) (line : LogLine) (old new : Around)
    (result : Result Bool Stop) : Type 0 where
  pub writes : WritesLine number s line (written_of old) (written_of new) result
  pub nothing_stored : StoresNothing old new result

-- the lines of a log that begins with a mesh are taken, and what they tell is written
pub record MeasuresLines (m : Mesh) (lines : List LogLine) (old new : Around)
    (result : Result (Option LogRefusal) Stop) : Type 0 where
  pub told :
      IsToldOf (Ok (record { mesh = m; lines = lines })) (written_of old) (written_of new) result
  pub nothing_stored : StoresNothing old new result
