-- How a check ends, by what its file gave.
use Rattle.std.specs.Prelude.{◌≡◌, Option, Result, Ok, Err}
use Rattle.mesh_base.specs.declared.limits.Scale.{Scale}
use Rattle.obj_text.specs.Obj.{Lists}
use Rattle.log_text.specs.declared.Refusal.{Refusal}
use Rattle.outside_io.specs.declared.stop.Stop.{Stop}
use Rattle.outside_io.specs.declared.stop.Stop.TheVariants.{NoMemory, DeskFault, SinkFault}
use Rattle.outside_io.specs.Sink.{appended, AppendsPart}
use Rattle.outside_io.specs.World.{Contents}
use Rattle.track_check.specs.Check.{text_told, ending_told}

-- the text is whole, and nothing is stored
pub record EndsWhole (scale : Scale) (found : Result Lists Refusal) (ending : Option Refusal)
    (old new : Contents) : Type 0 where
  pub ending_is : ending ≡ ending_told scale found
  pub written : new.written ≡ appended old.written (text_told scale found)
  pub files : new.files ≡ old.files

-- the sink failed, and the first bytes of the text were written, perhaps
-- none, and not all; nothing is stored
pub record EndsAtSink (scale : Scale) (found : Result Lists Refusal)
    (old new : Contents) : Type 0 where
  pub written : AppendsPart old.written new.written (text_told scale found)
  pub files : new.files ≡ old.files

-- by the ending; at want of memory, and where the desk failed, nothing is written or stored
abbrev pub Ends : Scale → Result Lists Refusal → Result (Option Refusal) Stop → Contents →
    Contents → Type 0
Ends scale found (Ok ending) old new = EndsWhole scale found ending old new
Ends scale found (Err NoMemory) old new = new ≡ old
Ends scale found (Err DeskFault) old new = new ≡ old
Ends scale found (Err SinkFault) old new = EndsAtSink scale found old new
