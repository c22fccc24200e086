-- What bytes do that a command tells.
use Rattle.std.specs.Prelude.{◌≡◌, List, ℕ, Result, OnOk, OnErr, IsErrOf}
use Rattle.outside_io.specs.declared.stop.Stop.{Stop}
use Rattle.outside_io.specs.declared.stop.Stop.TheVariants.{NoMemory}
use Rattle.outside_io.specs.Outside.{Around, StoresNothing, written_of}
use Rattle.outside_io.specs.Sink.{appended, AppendsPart}

-- the text is written, or the first bytes of it and not all, perhaps none: none where memory
-- was wanting; and nothing is stored
pub record Tells {T : Type 0} (text : List ℕ) (old new : Around)
    (result : Result T Stop) : Type 0 where
  pub whole : OnOk result (written_of new ≡ appended (written_of old) text)
  pub part : OnErr result (AppendsPart (written_of old) (written_of new) text)
  pub none : IsErrOf result NoMemory → written_of new ≡ written_of old
  pub nothing_stored : StoresNothing old new result
