-- Lines of a text that are to come, of which each is parsed when it is taken.
use Rattle.std.specs.Prelude.{◌≡◌, ◌≤◌, ℕ, List, [], ◌∷◌, length, drop, Option, Some, None, Result, Ok, Err}
use Rattle.line_text.specs.declared.TextFault.{TextFault}
use Rattle.line_text.specs.declared.ReadFault.{ReadFault}
use Rattle.line_text.specs.Faults.{Fails}
use Rattle.mesh_base.specs.declared.Scale.{Scale}
use Rattle.log_text.specs.declared.LogLine.{LogLine}
use Rattle.log_read.specs.Reading.{parts_add, parts_of_text}

-- the lines of what is left of a text by a scale and a version, or the first that is no spelling
abbrev pub rest_of : Scale → ℕ → List ℕ → Result (List LogLine) TextFault
rest_of scale version bytes = parts_add scale version [] 1 (parts_of_text bytes)

-- lines were read
abbrev pub HasLines : Result (List LogLine) TextFault → Type 0
HasLines read = (lines : List LogLine) × (read ≡ Ok lines)

-- and these are they
abbrev pub lines_in : Result (List LogLine) TextFault → List LogLine
lines_in (Ok lines) = lines
lines_in (Err fault) = []

-- the lines that are spelled from a place of a text on
abbrev pub lines_ahead : Scale → ℕ → List ℕ → ℕ → List LogLine
lines_ahead scale version text at = lines_in (rest_of scale version (drop at text))

-- the place is one of the text's, and no line behind it is outside the grammar
pub record IsAhead (scale : Scale) (version : ℕ) (text : List ℕ) (at : ℕ) : Type 0 where
  pub inside : at ≤ length text
  pub lines : HasLines (rest_of scale version (drop at text))

-- a text was looked through: it has lines, or the first that is no spelling was met
abbrev pub IsChecked : {A : Type 0} → Result A ReadFault → Result (List LogLine) TextFault → Type 0
IsChecked (Ok done) read = HasLines read
IsChecked (Err fault) read = Fails fault read

-- the first of the lines is taken off them, or there is none
abbrev pub TakesFirst : List LogLine → Option LogLine → List LogLine → Type 0
TakesFirst old None new = (old ≡ []) × (new ≡ [])
TakesFirst old (Some line) new = old ≡ line ∷ new

-- the line from a place of a text on, and the place behind it; or there is none
abbrev pub ParsesFirst : Scale → ℕ → List ℕ → ℕ → Option (LogLine × ℕ) → Type 0
ParsesFirst scale version text at None = lines_ahead scale version text at ≡ []
ParsesFirst scale version text at (Some found) =
    IsAhead scale version text found.1
    × (lines_ahead scale version text at ≡ found.0 ∷ lines_ahead scale version text found.1)
