-- What calls read: the words of a command line, and the files of a job.
use Rattle.std.specs.Prelude.{ℕ, List, map, Option, option_map, Result, IfOk, String, string_bytes}
use Rattle.std.specs.declared.alloc.Global.{Global}
use Rattle.in_out.specs.InOut.{InOut}
use Rattle.clap.specs.Words.{App}
use Rattle.mesh_base.specs.declared.Scale.{Scale}
use Rattle.outside_io.specs.Desk.{Files}
use Rattle.outside_io.specs.Outside.{Around, files_before}
use Rattle.outside_io.specs.declared.outside.Fetched.{Fetched}
use Rattle.outside_io.specs.declared.stop.Stop.{Stop}
use Rattle.track_input.specs.declared.command.Command.{Command}
use Rattle.track_input.specs.declared.inputs.Ready.{Ready}
use Rattle.track_input.specs.Commands.{Values, IsReadBy, IsReadExactly}
use Rattle.track_input.specs.Fetched.{source_of}
use Rattle.track_input.specs.Named.{named_by}
use Rattle.track_input.specs.Reading.{Prepares}
use Rattle.track_input.specs.Source.{IsSource}
use Rattle.track_input.specs.Taken.{IsReading}
use Rattle.track_input.specs.Words.{Named}

-- the words of a command line, as bytes
abbrev pub bytes_of_words : List (String Global) → List (List ℕ)
bytes_of_words words = map (λ word. string_bytes word) words

-- the words are read as what this command reads of them
abbrev pub ReadsWordsBy : (Values → Option Named) → App → List (String Global) → Option Command →
    Type 0
ReadsWordsBy read app words found = IsReadBy read app (bytes_of_words words) (option_map named_by found)

-- the words are read as this command, or as none
abbrev pub ReadsWords : List (String Global) → Option Command → Type 0
ReadsWords words found = IsReading (bytes_of_words words) (option_map named_by found)

-- the same, exactly
abbrev pub ReadsWordsExactly : List (String Global) → Option Command → Type 0
ReadsWordsExactly words found = IsReadExactly (bytes_of_words words) (option_map named_by found)

-- what is fetched is what the name holds, within the limits of this scale
abbrev pub FetchesText : Scale → Option Files → List ℕ → Fetched → Type 0
FetchesText scale files name found = IsSource scale files name (source_of found)

-- a call that is not stopped has prepared what the files of two names give that the desk holds
-- before it
abbrev pub PreparesJob : {O : Type 0} → (O → Around) → InOut O → Scale → List ℕ → List ℕ → ℕ →
    Result Ready Stop → Type 0
PreparesJob around outside scale mesh_name step_name decimals result =
    IfOk result (Prepares scale (files_before around outside) mesh_name step_name decimals)
