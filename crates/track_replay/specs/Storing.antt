-- Files are stored, one after another, and where that stops.
use Rattle.std.specs.Prelude.{◌≡◌, ◌⊎◌, ℕ, List, ◌∷◌, ◌++◌, length, Result, Ok, Err}
use Rattle.outside_io.specs.Desk.{SameBut}
use Rattle.outside_io.specs.Outside.{Around, Counts, holds_of}
use Rattle.outside_io.specs.Sink.{AppendsPart}
use Rattle.outside_io.specs.World.{Contents}
use Rattle.outside_io.specs.declared.stop.Stop.{Stop}
use Rattle.outside_io.specs.declared.stop.Stop.TheVariants.{NoMemory, DeskFault, SinkFault}
use Rattle.track_engine.specs.Saved.{stored}
use Rattle.track_replay.specs.Wanted.{NamedTexts}

-- all of these are stored, and nothing is written
pub record StoresAll (texts : NamedTexts) (old new : Contents) : Type 0 where
  pub files : new.files ≡ stored texts old.files
  pub written : new.written ≡ old.written

-- the first of these are stored, perhaps none of them, and nothing is written
pub record StoresFirst (texts : NamedTexts) (old new : Contents) : Type 0 where
  pub done : NamedTexts
  pub rest : NamedTexts
  pub split : texts ≡ done ++ rest
  pub stores : StoresAll done old new

-- the first of these are stored, perhaps none of them, and the desk failed at the next, of whose
-- name nothing is said: each other name holds what it held then; and nothing is written
pub record FailsAtNext (texts : NamedTexts) (old new : Contents) : Type 0 where
  pub done : NamedTexts
  pub name : List ℕ
  pub text : List ℕ
  pub rest : NamedTexts
  pub split : texts ≡ done ++ (name, text) ∷ rest
  pub others : SameBut name (stored done old.files) new.files
  pub written : new.written ≡ old.written

-- it stops before the text that is written behind these: memory was wanting, or the desk failed,
-- behind the first of them, or the desk failed at one; the sink did not fail
abbrev pub StopsStoring : Stop → NamedTexts → Contents → Contents → Type 0
StopsStoring NoMemory texts old new = StoresFirst texts old new
StopsStoring DeskFault texts old new = StoresFirst texts old new ⊎ FailsAtNext texts old new
StopsStoring SinkFault texts old new = ⊥

-- all of these are stored, and the sink failed in the text that is written behind them: the first
-- bytes of it are, perhaps none, and not all
pub record StopsWriting (stop : Stop) (texts : NamedTexts) (text : List ℕ)
    (old new : Contents) : Type 0 where
  pub fault : stop ≡ SinkFault
  pub files : new.files ≡ stored texts old.files
  pub part : AppendsPart old.written new.written text

-- all of these are stored, and so many they are; or it stops
abbrev pub StoresTexts : NamedTexts → Contents → Contents → Result ℕ Stop → Type 0
StoresTexts texts old new (Ok count) = StoresAll texts old new × (count ≡ length texts)
StoresTexts texts old new (Err stop) = StopsStoring stop texts old new

-- the same, and faults are counted
pub record StoresCounted (texts : NamedTexts) (old new : Around)
    (result : Result ℕ Stop) : Type 0 where
  pub stores : StoresTexts texts (holds_of old) (holds_of new) result
  pub counts : Counts old new result
