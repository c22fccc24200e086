-- How a conversion ends, by what its file gave.
use Rattle.std.specs.Prelude.{◌≡◌, ℕ, Option, Result, Ok, Err}
use Rattle.obj_text.specs.Obj.{Lists}
use Rattle.log_text.specs.declared.Refusal.{Refusal}
use Rattle.outside_io.specs.declared.stop.Stop.{Stop}
use Rattle.outside_io.specs.declared.stop.Stop.TheVariants.{NoMemory, DeskFault, SinkFault}
use Rattle.outside_io.specs.Desk.{Files, with_file, SameBut}
use Rattle.outside_io.specs.Sink.{appended, AppendsPart}
use Rattle.outside_io.specs.World.{Contents}
use Rattle.track_input.specs.Words.{MeshName}
use Rattle.track_convert.specs.Formats.{lists_in, text_in}
use Rattle.track_convert.specs.Conversion.{line_told, refusal_told}

-- The text of the lists is stored, in the format that the name picks. It has the same content as
-- the text that gave them: its grammar gives these lists again.
pub record IsStored (to : MeshName) (decimals : ℕ) (lists : Lists)
    (old new : Option Files) : Type 0 where
  pub stored : new ≡ with_file old to.name (text_in to.format decimals lists)
  pub same_content : lists_in to.format decimals (text_in to.format decimals lists) ≡ Ok lists

-- the files behind a store that was answered Ok; where there are no lists, nothing is stored
abbrev pub FilesAfter : MeshName → ℕ → Result Lists Refusal → Option Files → Option Files → Type 0
FilesAfter to decimals (Ok lists) old new = IsStored to decimals lists old new
FilesAfter to decimals (Err why) old new = new ≡ old

-- the files where the desk failed: of the name whose store failed nothing is said,
-- and each other name is as it was
abbrev pub FilesAtFault : MeshName → Result Lists Refusal → Option Files → Option Files → Type 0
FilesAtFault to (Ok lists) old new = SameBut to.name old new
FilesAtFault to (Err why) old new = new ≡ old

-- the line is whole
pub record EndsWhole (to : MeshName) (decimals : ℕ) (found : Result Lists Refusal)
    (ending : Option Refusal) (old new : Contents) : Type 0 where
  pub ending_is : ending ≡ refusal_told found
  pub written : new.written ≡ appended old.written (line_told found)
  pub files : FilesAfter to decimals found old.files new.files

-- the desk failed before the line
pub record EndsAtDesk (to : MeshName) (found : Result Lists Refusal)
    (old new : Contents) : Type 0 where
  pub written : new.written ≡ old.written
  pub files : FilesAtFault to found old.files new.files

-- the sink failed, and the first bytes of the line were written, perhaps none, and not all
pub record EndsAtSink (to : MeshName) (decimals : ℕ) (found : Result Lists Refusal)
    (old new : Contents) : Type 0 where
  pub written : AppendsPart old.written new.written (line_told found)
  pub files : FilesAfter to decimals found old.files new.files

-- by the ending; at want of memory nothing is written or stored
abbrev pub Ends : MeshName → ℕ → Result Lists Refusal → Result (Option Refusal) Stop → Contents →
    Contents → Type 0
Ends to decimals found (Ok ending) old new = EndsWhole to decimals found ending old new
Ends to decimals found (Err NoMemory) old new = new ≡ old
Ends to decimals found (Err DeskFault) old new = EndsAtDesk to found old new
Ends to decimals found (Err SinkFault) old new = EndsAtSink to decimals found old new
