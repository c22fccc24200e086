-- The text of a card.
use Rattle.std.specs.Prelude.{ℕ, ◌++◌, List, [], ◌∷◌, codes, decimal}
use Rattle.std.specs.List.{join_with_byte}
use Rattle.hex.specs.Hex.{encode_lower}
use Rattle.job_card.specs.declared.card.Card.{Card}
use Rattle.job_card.specs.declared.card.FileMark.{FileMark}
use Rattle.job_card.specs.declared.card.Version.{Version}

-- three numbers, with a dot between them
abbrev pub version_text : Version → List ℕ
version_text v =
    join_with_byte 46 (decimal v.major ∷ decimal v.minor ∷ decimal v.patch ∷ [])

-- a file: what it is to the job, how many bytes it has, and their SHA-256 digest in small hex digits
abbrev pub mark_line : List ℕ → FileMark → List ℕ
mark_line name m = join_with_byte 32 (name ∷ decimal m.bytes ∷ encode_lower m.digest ∷ [])

-- the lines, without their ends
abbrev pub lines_of : Card → List (List ℕ)
lines_of c =
    codes "topo card 1"
    ∷ join_with_byte 32 (codes "program" ∷ version_text c.program ∷ [])
    ∷ join_with_byte 32 (codes "decimals" ∷ decimal c.decimals ∷ [])
    ∷ mark_line (codes "mesh") c.mesh
    ∷ mark_line (codes "steps") c.steps
    ∷ mark_line (codes "log") c.log
    ∷ codes "end"
    ∷ []

-- lines, each with LF at its end
abbrev pub text_of_lines : List (List ℕ) → List ℕ
text_of_lines [] = []
text_of_lines (line ∷ lines) = line ++ 10 ∷ text_of_lines lines

-- the text
abbrev pub text_of : Card → List ℕ
text_of c = text_of_lines (lines_of c)
