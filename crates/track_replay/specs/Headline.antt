-- The headline: what a replay of a log stores and writes.
use Rattle.std.specs.Prelude.{◌≡◌, ◌⊎◌, ℕ, ◌-◌, List, [], length, take, Option, Some, None, Result, Ok, Err, IsErr}
use Rattle.mesh_base.specs.Mesh.{Mesh}
use Rattle.log_text.specs.declared.LogLine.{LogLine}
use Rattle.log_replay.specs.Replay.{at_mesh}
use Rattle.outside_io.specs.declared.stop.Stop.{Stop}
use Rattle.outside_io.specs.Outside.{Around, HasCauses, Counts, holds_of}
use Rattle.outside_io.specs.Sink.{appended}
use Rattle.outside_io.specs.World.{Contents, World}
use Rattle.track_input.specs.Words.{ReplayNames}
use Rattle.track_log.specs.declared.refusal.LogRefusal.{LogRefusal}
use Rattle.track_log.specs.declared.refusal.LogRefusal.TheVariants.{Replay}
use Rattle.track_log.specs.LogJob.{LogJob, IsLogJob, LogInput, input_of}
use Rattle.track_log.specs.Taking.{FitsTested}
use Rattle.track_log.specs.Ending.{EndsBy}
use Rattle.track_log.specs.Refused.{refused_text}
use Rattle.track_engine.specs.Saved.{Target, stored}
use Rattle.track_replay.specs.Wanted.{NamedTexts, wanted_of}
use Rattle.track_replay.specs.Texts.{replayed_text}
use Rattle.track_replay.specs.Storing.{StopsStoring, StopsWriting}

-- THE HEADLINE, read from here down. A replay stores the meshes that the lines of a log tell of,
-- up to the end or to the first line that does not fit, each under the number that its line
-- tells, and then writes how many that are, or the refusal alone; or it is stopped, and then it
-- stored the first of these meshes and wrote nothing, or it stored all of them and wrote the
-- first bytes of that, and not all.

-- what is stored in whole by a replay of what was given that has this ending
abbrev pub texts_stored : Option ℕ → Target → Result LogInput LogRefusal → Option LogRefusal →
    NamedTexts
texts_stored only to (Ok input) None = wanted_of only to (at_mesh input.mesh) input.lines
texts_stored only to (Ok input) (Some (Replay line)) =
    wanted_of only to (at_mesh input.mesh) (take (line - 1) input.lines)
texts_stored only to input ending = []

-- what is written in whole by a replay that stored these and has this ending
abbrev pub text_told : NamedTexts → Option LogRefusal → List ℕ
text_told texts None = replayed_text (length texts)
text_told texts (Some why) = refused_text why

-- it comes to an end: this is the ending of a replay that tests each step, all of its meshes
-- are stored, and its text is written
pub record ComesToEnd (only : Option ℕ) (to : Target) (input : Result LogInput LogRefusal)
    (ending : Option LogRefusal) (old new : Contents) : Type 0 where
  pub ends : EndsBy FitsTested input ending
  pub files : new.files ≡ stored (texts_stored only to input ending) old.files
  pub written :
      new.written ≡ appended old.written (text_told (texts_stored only to input ending) ending)

-- it stops while the meshes are stored, or while the text is written
abbrev pub StopsIn : Stop → NamedTexts → List ℕ → Contents → Contents → Type 0
StopsIn stop texts text old new =
    StopsStoring stop texts old new ⊎ StopsWriting stop texts text old new

-- What is done of what was given: the replay comes to its end; or it is stopped, in the meshes and
-- the text of whatever ending it has.
abbrev pub IsReplayOf : Option ℕ → Target → Result LogInput LogRefusal → Contents → Contents →
    Result (Option LogRefusal) Stop → Type 0
IsReplayOf only to input old new (Ok ending) = ComesToEnd only to input ending old new
IsReplayOf only to input old new (Err stop) =
    (ending : Option LogRefusal) → EndsBy FitsTested input ending →
    StopsIn stop (texts_stored only to input ending)
    (text_told (texts_stored only to input ending) ending) old new

-- the prefix and the decimals of the names
abbrev pub target_in : ReplayNames → Target
target_in names = record { prefix = names.prefix; decimals = names.names.decimals }

-- The log that the desk held at entry under the one name is replayed, from
-- the mesh under the other name on.
pub record Replays (names : ReplayNames) (result : Result (Option LogRefusal) Stop)
    (old new : World) : Type 0 where
  pub job : LogJob
  pub is_job : IsLogJob old.holds.files names.names job
  pub done : IsReplayOf names.only (target_in names) (input_of job) old.holds new.holds result
  pub only : (ending : Option LogRefusal) → EndsBy FitsTested (input_of job) ending →
      (result ≡ Ok ending) ⊎ IsErr result
  pub faults : HasCauses old new result

-- ---- the part of it behind what was given

-- the lines of a log that begins with a mesh are replayed, and faults are counted
pub record ReplaysLines (only : Option ℕ) (to : Target) (m : Mesh) (lines : List LogLine)
    (old new : Around) (result : Result (Option LogRefusal) Stop) : Type 0 where
  pub done : IsReplayOf only to (Ok (record { mesh = m; lines = lines }))
      (holds_of old) (holds_of new) result
  pub counts : Counts old new result
