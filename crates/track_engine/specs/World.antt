-- What the engine does to a sink and a desk.
use Rattle.std.specs.Prelude.{◌≡◌, ◌≢◌, ◌⊎◌, ℕ, List, [], ◌∷◌, ◌++◌, Option, Result, Ok, Err}
use Rattle.log_text.specs.Lines.{text_of_lines}
use Rattle.log_text.specs.declared.LogLine.{LogLine}
use Rattle.log_text.specs.declared.LogLine.TheVariants.{Mesh as MeshLine}
use Rattle.log_text.specs.declared.Refusal.{Refusal}
use Rattle.log_replay.specs.Replay.{Replay}
use Rattle.outside_io.specs.Sink.{appended}
use Rattle.outside_io.specs.Desk.{Files, SameBut}
pub use Rattle.outside_io.specs.World.{Contents, contents, World, world}
use Rattle.outside_io.specs.declared.stop.Stop.{Stop}
use Rattle.outside_io.specs.declared.stop.Stop.TheVariants.{NoMemory, DeskFault, SinkFault}
use Rattle.log_write.specs.Written.{WrittenInPart}
use Rattle.track_engine.specs.Saved.{Target, files_of, file_name, stored}
use Rattle.track_engine.specs.Effects.{ExpectedLog, Ended, CutShort}

-- From old to new these lines were written, and the meshes that they name were stored.
pub record Logs (to : Target) (from : Replay) (lines : List LogLine)
    (old new : Contents) : Type 0 where
  pub written : new.written ≡ appended old.written (text_of_lines lines)
  pub files : new.files ≡ stored (files_of to from lines) old.files

-- what a file may hold whose line is written and whose store was not done
abbrev pub IsOpen : Stop → List ℕ → Option Files → Option Files → Type 0
IsOpen NoMemory name before now = now ≡ before
IsOpen DeskFault name before now = SameBut name before now
IsOpen SinkFault name before now = ⊥

-- the last line names a mesh whose store was not done
pub record LastIsOpen (stop : Stop) (to : Target) (from : Replay) (done : List LogLine)
    (old new : Option Files) : Type 0 where
  pub front : List LogLine
  pub k : ℕ
  pub vertices : ℕ
  pub faces : ℕ
  pub last : done ≡ front ++ MeshLine k vertices faces ∷ []
  pub open_file : IsOpen stop (file_name to.prefix k) (stored (files_of to from front) old) new

-- The first of these lines were written, in order, and perhaps a part of the next. The meshes that
-- they name were stored, but perhaps for the last.
pub record StopsIn (stop : Stop) (to : Target) (from : Replay) (lines : List LogLine)
    (old new : Contents) : Type 0 where
  pub text : WrittenInPart old.written new.written lines
  pub files : (new.files ≡ stored (files_of to from text.done) old.files)
      ⊎ LastIsOpen stop to from text.done old.files new.files

-- A run was stopped in a log before its end: what is left of the log begins with a line that is not
-- written whole, or the log is cut short, and beyond that nothing is written.
pub record StopsShort (stop : Stop) (to : Target) (from : Replay) (expected : ExpectedLog)
    (old new : Contents) : Type 0 where
  pub in_part : StopsIn stop to from expected.lines old new
  pub left : (in_part.text.rest ≢ []) ⊎ (expected.ending ≡ CutShort)

-- A part of a run writes the lines that are expected, to a last one, and stores their meshes,
-- or it is stopped before the end.
abbrev pub Follows : Target → Replay → ExpectedLog → Contents → Contents →
    Result (Option Refusal) Stop → Type 0
Follows to from expected old new (Ok told) =
    Logs to from expected.lines old new × (expected.ending ≡ Ended told)
Follows to from expected old new (Err stop) = StopsShort stop to from expected old new
