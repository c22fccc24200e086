-- What holds of each step text.
use Rattle.std.specs.Prelude.{◌≡◌, ℕ, ◌≤◌, List, length, Ok, Err}
use Rattle.line_text.specs.Texts.{numbered_lines}
use Rattle.line_text.specs.declared.TextFault.{TextFault}
use Rattle.step_text.specs.declared.directive.Placed.{Placed}
use Rattle.step_text.specs.Steps.{steps_of}
use Rattle.step_text.specs.Ranges.{IsFrom, AreInRange, AreOnLines, AreNested}

-- the number of a text's lines
abbrev pub line_count : List ℕ → ℕ
line_count bytes = length (numbered_lines 1 bytes)

-- The directives of a text are in range, on its lines, and nested with no group left open.
abbrev pub StepsAreInRange : Type 0
StepsAreInRange = (bytes : List ℕ) (directives : List Placed) → steps_of bytes ≡ Ok directives
    → AreInRange directives × AreOnLines (line_count bytes) directives × AreNested 0 directives 0

-- The fault of a text is on one of its lines.
abbrev pub FaultsAreOnLines : Type 0
FaultsAreOnLines =
    (bytes : List ℕ) (fault : TextFault) → steps_of bytes ≡ Err fault
    → IsFrom 1 (line_count bytes) fault.line

-- A text has at most as many lines as bytes.
abbrev pub LinesAreFew : Type 0
LinesAreFew = (bytes : List ℕ) → line_count bytes ≤ length bytes
