-- What the iterators of this crate still have to give. Their fields are seen nowhere else.
use Rattle.std.specs.Prelude.{ℕ, ◌+◌, List}
use Rattle.line_text.specs.declared.text_lines.Line.{Line}
use Rattle.line_text.specs.declared.text_lines.Lines.{Lines}
use Rattle.line_text.specs.declared.blank_words.Words.{Words}
use Rattle.line_text.specs.declared.pieces.Parts.{Parts}
use Rattle.line_text.specs.Texts.{numbered_lines, words_of}
use Rattle.line_text.specs.Pieces.{parts_of}

-- a line's number and its bytes
abbrev pub line_view : Line → ℕ × List ℕ
line_view line = (line.number, line.bytes.now)

-- the lines that are left, with their numbers
unfoldable pub lines_left : Lines → List (ℕ × List ℕ)
lines_left lines = numbered_lines (lines.before + 1) lines.rest.now

-- the words that are left
unfoldable pub words_left : Words → List (List ℕ)
words_left words = words_of words.rest.now

-- the parts that are left
unfoldable pub parts_left : Parts → List (List ℕ)
parts_left parts = parts_of parts.byte parts.rest
