-- What lines of a log do to a sink.
use Rattle.std.specs.Prelude.{◌≡◌, ℕ, ◌<◌, List, [], ◌∷◌, ◌++◌, length, take, Option, Result, Ok, Err}
use Rattle.log_text.specs.Lines.{text_of_line, text_of_lines}
use Rattle.log_text.specs.declared.LogLine.{LogLine}
use Rattle.outside_io.specs.declared.stop.Stop.{Stop}
use Rattle.outside_io.specs.Outside.{Around, StoresNothing}
use Rattle.outside_io.specs.Sink.{appended}

-- nothing, or a part of the first line that is not all of it
abbrev pub IsBegun : List ℕ → List LogLine → Type 0
IsBegun part [] = part ≡ []
IsBegun part (line ∷ lines) =
    (n : ℕ) × (n < length (text_of_line line)) × (part ≡ take n (text_of_line line))

-- The first of these lines were written, in order, and perhaps a part of the next.
pub record WrittenInPart (old new : Option (List ℕ)) (lines : List LogLine) : Type 0 where
  pub done : List LogLine
  pub rest : List LogLine
  pub split : lines ≡ done ++ rest
  pub part : List ℕ
  pub begun : IsBegun part rest
  pub written : new ≡ appended old (text_of_lines done ++ part)

-- these lines were written, or the first of them
abbrev pub Written : {T E : Type 0} → Option (List ℕ) → Option (List ℕ) → List LogLine →
    Result T E → Type 0
Written old new lines (Ok x) = new ≡ appended old (text_of_lines lines)
Written old new lines (Err error) = WrittenInPart old new lines

-- these lines are written, or the first of them, and nothing is stored
pub record Says {T : Type 0} (lines : List LogLine) (old new : Around)
    (result : Result T Stop) : Type 0 where
  pub written : Written old.world.holds.written new.world.holds.written lines result
  pub nothing_stored : StoresNothing old new result
