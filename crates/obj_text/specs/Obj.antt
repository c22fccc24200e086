-- The OBJ grammar: the lists that the lines give, or the first line outside it with its reason.
use Rattle.std.specs.Prelude.{ℕ, ◌+◌, ◌-◌, ◌^◌, Bool, ◌==◌, ◌&&◌, ◌||◌, nat_le, nat_lt}
use Rattle.std.specs.Prelude.{if◌then◌else◌, List, [], ◌∷◌, ◌++◌, length, slice_index}
use Rattle.std.specs.Prelude.{Option, Some, None, is_some, Result, Ok, Err, codes}
use Rattle.std.specs.List.{slice_split}
use Rattle.std.specs.Str.{bytes_eq}
use Rattle.grid_base.specs.Triples.{Triple}
use Rattle.line_text.specs.declared.fault.TextWhy.{TextWhy}
use Rattle.line_text.specs.declared.fault.TextWhy.TheVariants.{Corner, Short, Long, Unknown, Continuation}
use Rattle.line_text.specs.declared.fault.TextFault.{TextFault}
use Rattle.line_text.specs.Faults.{◌>>=◌, at_line}
use Rattle.line_text.specs.Numbers.{whole_parts}
use Rattle.line_text.specs.Fields.{coordinate_of}
use Rattle.line_text.specs.Texts.{words_of, numbered_lines}

-- ---- a corner of a face

-- i, i/t, i//n or i/t/n: the whole word i, with its sign apart
abbrev pub corner_parts : List (List ℕ) → Option (Bool × ℕ)
corner_parts [] = None
corner_parts (i ∷ []) = whole_parts i
corner_parts (i ∷ t ∷ []) = if is_some (whole_parts t) then whole_parts i else None
corner_parts (i ∷ t ∷ n ∷ []) =
    if (length t == 0 || is_some (whole_parts t)) && is_some (whole_parts n) then whole_parts i
    else None
corner_parts (i ∷ t ∷ n ∷ o ∷ others) = None

-- the number of the vertex; a negative one counts back from the last of those read
abbrev pub vertex_number : ℕ → Option (Bool × ℕ) → Result ℕ TextWhy
vertex_number read None = Err Corner
vertex_number read (Some i) =
    if i.1 == 0 then Err Corner
    else if i.0 then (if nat_le i.1 read then Ok (read + 1 - i.1) else Err Corner)
    else if nat_lt i.1 (2 ^ 32) then Ok i.1 else Err Corner

-- the vertex that a word names, where so many vertices were read before
unfoldable pub corner_of : ℕ → List ℕ → Result ℕ TextWhy
corner_of read word = vertex_number read (corner_parts (slice_split (λ b. b == 47) word))

-- the vertices that the words name, or the first reason
unfoldable pub corners_of : ℕ → List (List ℕ) → Result (List ℕ) TextWhy
corners_of read [] = Ok []
corners_of read (word ∷ words) = do
  corner ← corner_of read word
  corners ← corners_of read words
  Ok (corner ∷ corners)

-- the triangles of a face with the first corner a, after its second corner b
abbrev pub fan_after : ℕ → ℕ → List ℕ → List (List ℕ)
fan_after a b [] = []
fan_after a b (c ∷ corners) = (a ∷ b ∷ c ∷ []) ∷ fan_after a c corners

-- the triangles of a face: the first corner with each two that follow one another after it
abbrev pub fan : List ℕ → List (List ℕ)
fan [] = []
fan (a ∷ []) = []
fan (a ∷ b ∷ corners) = fan_after a b corners

-- ---- the words of a line after the first

-- three coordinates, and up to four words that are not read
unfoldable pub point_of : ℕ → List (List ℕ) → Result Triple TextWhy
point_of decimals [] = Err Short
point_of decimals (x ∷ []) = Err Short
point_of decimals (x ∷ y ∷ []) = Err Short
point_of decimals (x ∷ y ∷ z ∷ others) = if nat_lt 4 (length others) then Err Long else do
  x ← coordinate_of decimals x
  y ← coordinate_of decimals y
  z ← coordinate_of decimals z
  Ok (record { x = x; y = y; z = z })

-- three corners or more
unfoldable pub face_of : ℕ → List (List ℕ) → Result (List ℕ) TextWhy
face_of read [] = Err Short
face_of read (a ∷ []) = Err Short
face_of read (a ∷ b ∷ []) = Err Short
face_of read (a ∷ b ∷ c ∷ others) = corners_of read (a ∷ b ∷ c ∷ others)

-- ---- lines

-- where the points stand, and triangles whose corners number points from 1
pub record Lists : Type 0 where
  pub points : List Triple
  pub faces : List (List ℕ)

-- the first words of lines that give nothing
abbrev pub is_skipped : List ℕ → Bool
is_skipped word =
    bytes_eq word (codes "vn") || bytes_eq word (codes "vt") || bytes_eq word (codes "vp")
    || bytes_eq word (codes "o") || bytes_eq word (codes "g") || bytes_eq word (codes "s")
    || bytes_eq word (codes "usemtl") || bytes_eq word (codes "mtllib")

-- the lists with what a line of these words adds
unfoldable pub words_add : ℕ → Lists → List (List ℕ) → Result Lists TextWhy
words_add decimals lists [] = Ok lists
words_add decimals lists (first ∷ words) =
    if bytes_eq first (codes "v")
    then (point_of decimals words
    >>= λ point. Ok (record { points = lists.points ++ point ∷ []; faces = lists.faces }))
    else if bytes_eq first (codes "f")
    then (face_of (length lists.points) words
    >>= λ corners. Ok (record { points = lists.points; faces = lists.faces ++ fan corners }))
    else if is_skipped first then Ok lists else Err Unknown

-- whether the last byte is a backslash
abbrev pub is_continued : List ℕ → Bool
is_continued line = slice_index line (length line - 1) == 92

-- the lists with what a line adds
unfoldable pub line_adds : ℕ → Lists → List ℕ → Result Lists TextWhy
line_adds decimals lists line =
    if is_continued line then Err Continuation else words_add decimals lists (words_of line)

-- the lists so far and then each line in turn, up to the first fault
abbrev pub lines_add : ℕ → Lists → List (ℕ × List ℕ) → Result Lists TextFault
lines_add decimals lists [] = Ok lists
lines_add decimals lists (line ∷ lines) =
    at_line line.0 (line_adds decimals lists line.1) >>= λ more. lines_add decimals more lines

-- the lists that a text gives on a grid of so many decimals
abbrev pub lists_of : ℕ → List ℕ → Result Lists TextFault
lists_of decimals bytes =
    lines_add decimals (record { points = []; faces = [] }) (numbered_lines 1 bytes)
