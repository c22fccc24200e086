-- The reader's grammar: the line that words spell, or the reason.
use Rattle.std.specs.Prelude.{ℕ, ◌+◌, ◌-◌, Bool, ◌==◌, ◌&&◌, if◌then◌else◌, List, [], ◌∷◌, ◌++◌}
use Rattle.std.specs.Prelude.{length, Option, Some, None, Result, Ok, Err, codes, true, false}
use Rattle.std.specs.List.{slice_split}
use Rattle.std.specs.Str.{bytes_eq}
use Rattle.grid_base.specs.declared.TheConstants.{ID_MAX, HALVINGS_MAX}
use Rattle.line_text.specs.declared.TextWhy.{TextWhy}
use Rattle.line_text.specs.declared.TextWhy.TheVariants as why
use Rattle.line_text.specs.declared.TextFault.{TextFault}
use Rattle.line_text.specs.Faults.{◌>>=◌, at_line}
use Rattle.mesh_base.specs.declared.FileWord.{FileWord}
use Rattle.mesh_base.specs.declared.FileWord.TheVariants as file
use Rattle.mesh_base.specs.declared.How.TheVariants.{Whole, Impulse, Zones, Halved, Zero}
use Rattle.mesh_base.specs.declared.ShapeFault.TheVariants as shape
use Rattle.mesh_base.specs.declared.UseWhy.TheVariants as using
use Rattle.mesh_base.specs.declared.Scale.{Scale}
use Rattle.mesh_base.specs.Limits.{limits_of}
use Rattle.log_text.specs.declared.TheConstants.{COUNT_MAX, SEEN_MAX, CORNER_MAX, PASSES_MAX, VERSION, IDS_VERSION, OLD_VERSION}
use Rattle.log_text.specs.declared.LogLine.{LogLine}
use Rattle.log_text.specs.declared.LogLine.TheVariants as line
use Rattle.log_text.specs.declared.Refusal.{Refusal}
use Rattle.log_text.specs.declared.Refusal.TheVariants as refusal
use Rattle.line_text.specs.Spellings.{spaced_words, spelled_number, spelled_from, spelled_at, count_with_end}
use Rattle.log_read.specs.Fields.{both}
use Rattle.log_text.specs.Lines.{body_of}
use Rattle.log_read.specs.Values.{is_later, pair_at, shift_of_at, fault_at, whole, without_more_words}
use Rattle.log_read.specs.EditLines.{block_of, new_ids_of, pinch_of, edit_of}

-- the greatest number of rounds of impact zones: fewer than vertices may live
abbrev pub rounds_most : Scale → ℕ
rounds_most scale = (limits_of scale).vertices - 1

-- ---- lines

-- `log` and the version
unfoldable pub first_of : ℕ → Bool → List (List ℕ) → Result LogLine TextWhy
first_of version ended [] = Err why.Short
first_of version ended (name ∷ words) =
    if bytes_eq name (codes "log")
    then (whole ended 1 (spelled_at version version) words >>= λ v. Ok (line.First v))
    else Err why.Unknown

-- mesh K V F: no more vertices and faces than may live
unfoldable pub mesh_of : Scale → Bool → List (List ℕ) → Result LogLine TextWhy
mesh_of scale ended words =
    whole ended 3 (both (spelled_at 0 COUNT_MAX)
    (both (spelled_at 0 (limits_of scale).vertices) (spelled_at 0 (limits_of scale).faces))) words
    >>= λ found. Ok (line.Mesh found.0 found.1.0 found.1.1)

-- step K
unfoldable pub step_of : Bool → List (List ℕ) → Result LogLine TextWhy
step_of ended words = whole ended 1 (spelled_at 1 COUNT_MAX) words >>= λ k. Ok (line.Step k)

-- hit A B FACE
unfoldable pub hit_of : Bool → List (List ℕ) → Result LogLine TextWhy
hit_of ended words = whole ended 3 pair_at words >>= λ pair. Ok (line.Hit pair)

-- move V DX DY DZ
unfoldable pub move_of : Bool → List (List ℕ) → Result LogLine TextWhy
move_of ended words = whole ended 4 shift_of_at words >>= λ s. Ok (line.Move s)

-- moved: how, and the number of passes, rounds or halvings
unfoldable pub moved_of : Scale → Bool → List (List ℕ) → Result LogLine TextWhy
moved_of scale ended [] = Err why.Short
moved_of scale ended (how ∷ words) =
    if bytes_eq how (codes "whole") then without_more_words ended (line.Moved Whole) words
    else if bytes_eq how (codes "impulse")
    then (whole ended 1 (spelled_at 1 PASSES_MAX) words >>= λ n. Ok (line.Moved (Impulse n)))
    else if bytes_eq how (codes "zones")
    then (whole ended 1 (spelled_at 1 (rounds_most scale)) words >>= λ n. Ok (line.Moved (Zones n)))
    else if bytes_eq how (codes "halved")
    then (whole ended 1 (spelled_at 1 HALVINGS_MAX) words >>= λ n. Ok (line.Moved (Halved n)))
    else if bytes_eq how (codes "zero") then without_more_words ended (line.Moved Zero) words
    else Err why.Unknown

-- the file that a word names by a version
unfoldable pub file_of : ℕ → List ℕ → Option FileWord
file_of version word =
    if bytes_eq word (codes "mesh") then Some file.Mesh
    else if bytes_eq word (codes "steps") then Some file.Steps
    else if bytes_eq word (codes "log") && is_later version then Some file.Log
    else if bytes_eq word (codes "proof") && is_later version then Some file.Proof
    else None

-- a word that leads to no form
abbrev pub or_unknown : {A : Type 0} → Option A → Result A TextWhy
or_unknown None = Err why.Unknown
or_unknown (Some a) = Ok a

-- the line of a refusal
abbrev pub refused : Refusal → Result LogLine TextWhy
refused why = Ok (line.Refused why)

-- refused long: the file, and how much was seen of it
unfoldable pub long_of : ℕ → Bool → List (List ℕ) → Result LogLine TextWhy
long_of version ended [] = Err why.Short
long_of version ended (word ∷ words) = do
  name ← or_unknown (file_of version word)
  seen ← whole ended 1 (spelled_at 0 SEEN_MAX) words
  refused (refusal.Long name seen)

-- refused missing: the file
unfoldable pub missing_of : ℕ → Bool → List (List ℕ) → Result LogLine TextWhy
missing_of version ended [] = Err why.Short
missing_of version ended (word ∷ words) =
    or_unknown (file_of version word)
    >>= λ name. without_more_words ended (line.Refused (refusal.Missing name)) words

-- refused shape: what is too many, or which corner, face or side is wrong
unfoldable pub shape_of : Bool → List (List ℕ) → Result LogLine TextWhy
shape_of ended [] = Err why.Short
shape_of ended (word ∷ words) =
    if bytes_eq word (codes "vertices")
    then (whole ended 1 (spelled_at 0 SEEN_MAX) words
    >>= λ n. refused (refusal.Shape (shape.TooManyVertices n)))
    else if bytes_eq word (codes "faces")
    then (whole ended 1 (spelled_at 0 SEEN_MAX) words
    >>= λ n. refused (refusal.Shape (shape.TooManyFaces n)))
    else if bytes_eq word (codes "corner")
    then (whole ended 2 (both (spelled_at 1 COUNT_MAX) (spelled_at 1 CORNER_MAX)) words
    >>= λ n. refused (refusal.Shape (shape.NoVertex n.0 n.1)))
    else if bytes_eq word (codes "repeated")
    then (whole ended 1 (spelled_at 1 COUNT_MAX) words
    >>= λ n. refused (refusal.Shape (shape.Repeated n)))
    else if bytes_eq word (codes "doubled")
    then (whole ended 2 (both (spelled_at 1 COUNT_MAX) (spelled_at 1 COUNT_MAX)) words
    >>= λ n. refused (refusal.Shape (shape.Doubled n.0 n.1)))
    else if bytes_eq word (codes "unbalanced")
    then (whole ended 2 (both (spelled_at 1 COUNT_MAX) (spelled_at 1 COUNT_MAX)) words
    >>= λ n. refused (refusal.Shape (shape.Unbalanced n.0 n.1)))
    else Err why.Unknown

-- the number of a directive's line, and after the reason a vertex
unfoldable pub use_numbers : Bool → List ℕ → List (List ℕ) → Result (ℕ × ℕ) TextWhy
use_numbers ended at words = do
  counted ← count_with_end ended 1 words
  number ← spelled_from 1 COUNT_MAX (spelled_number at)
  v ← spelled_at 1 ID_MAX words
  Ok (number, v.0)

-- the number of a directive's line, with no word after the reason
unfoldable pub use_line : Bool → List ℕ → List (List ℕ) → Result ℕ TextWhy
use_line ended at words =
    count_with_end ended 0 words >>= λ counted. spelled_from 1 COUNT_MAX (spelled_number at)

-- The word after the line's number says how many follow; a
-- misspelt one asks for as many as follow.
unfoldable pub why_of_use : ℕ → Bool → List ℕ → List ℕ → List (List ℕ) → Result LogLine TextWhy
why_of_use version ended at word words =
    if bytes_eq word (codes "vertex")
    then (use_numbers ended at words >>= λ n. refused (refusal.StepUse n.0 (using.NoVertex n.1)))
    else if bytes_eq word (codes "range")
    then (use_numbers ended at words >>= λ n. refused (refusal.StepUse n.0 (using.ShiftRange n.1)))
    else if bytes_eq word (codes "box")
    then (use_numbers ended at words >>= λ n. refused (refusal.StepUse n.0 (using.Box n.1)))
    else if bytes_eq word (codes "field")
    then (use_line ended at words >>= λ n. refused (refusal.StepUse n using.NoField))
    else if bytes_eq word (codes "solid") && is_later version
    then (use_numbers ended at words >>= λ n. refused (refusal.StepUse n.0 (using.Solid n.1)))
    else if ended then Err why.Number
    else Err why.Short

-- refused use: the number of the directive's line, and why
unfoldable pub use_of : ℕ → Bool → List (List ℕ) → Result LogLine TextWhy
use_of version ended [] = Err why.Short
use_of version ended (at ∷ []) = Err why.Short
use_of version ended (at ∷ word ∷ words) = why_of_use version ended at word words

-- refused: what, by its next word
unfoldable pub refused_of : ℕ → Bool → List (List ℕ) → Result LogLine TextWhy
refused_of version ended [] = Err why.Short
refused_of version ended (word ∷ words) =
    if bytes_eq word (codes "long") then long_of version ended words
    else if bytes_eq word (codes "missing") then missing_of version ended words
    else if bytes_eq word (codes "mesh")
    then (whole ended 2 (fault_at false) words >>= λ fault. refused (refusal.Mesh fault))
    else if bytes_eq word (codes "shape") then shape_of ended words
    else if bytes_eq word (codes "meets")
    then (whole ended 3 pair_at words >>= λ pair. refused (refusal.Meets pair))
    else if bytes_eq word (codes "steps")
    then (whole ended 2 (fault_at (is_later version)) words
    >>= λ fault. refused (refusal.Steps fault))
    else if bytes_eq word (codes "use") then use_of version ended words
    else Err why.Unknown

-- solid V
unfoldable pub solid_of : Bool → List (List ℕ) → Result LogLine TextWhy
solid_of ended words = whole ended 1 (spelled_at 1 ID_MAX) words >>= λ v. Ok (line.Solid v)

-- close: whether the group is kept
unfoldable pub close_of : Bool → List (List ℕ) → Result LogLine TextWhy
close_of ended [] = Err why.Short
close_of ended (word ∷ words) =
    if bytes_eq word (codes "kept") then without_more_words ended (line.Close true) words
    else if bytes_eq word (codes "undone") then without_more_words ended (line.Close false) words
    else Err why.Unknown

-- the line of any other form than those that end in a list
unfoldable pub plain_of : Scale → ℕ → Bool → List ℕ → List (List ℕ) → Result LogLine TextWhy
plain_of scale version ended first words =
    if bytes_eq first (codes "topo") then first_of version ended words
    else if bytes_eq first (codes "mesh") then mesh_of scale ended words
    else if bytes_eq first (codes "step") then step_of ended words
    else if bytes_eq first (codes "hit") then hit_of ended words
    else if bytes_eq first (codes "move") then move_of ended words
    else if bytes_eq first (codes "moved") then moved_of scale ended words
    else if bytes_eq first (codes "refused") then refused_of version ended words
    else if bytes_eq first (codes "end") then without_more_words ended line.End words
    else if bytes_eq first (codes "solid") && is_later version then solid_of ended words
    else if bytes_eq first (codes "group") && is_later version then without_more_words ended line.Group words
    else if bytes_eq first (codes "close") && is_later version then close_of ended words
    else edit_of version ended first words

-- the line that the words spell by a scale and a version, where ended says that LF stands after them
unfoldable pub line_of : Scale → ℕ → Bool → List (List ℕ) → Result LogLine TextWhy
line_of scale version ended [] = Err why.Unknown
line_of scale version ended (first ∷ words) =
    if bytes_eq first (codes "block") then block_of ended words
    else if bytes_eq first (codes "pinch") then pinch_of ended words
    else if bytes_eq first (codes "vertices") && version == IDS_VERSION
    then (new_ids_of ended words >>= λ new. Ok (line.Vertices new))
    else if bytes_eq first (codes "faces") && version == IDS_VERSION
    then (new_ids_of ended words >>= λ new. Ok (line.Faces new))
    else plain_of scale version ended first words

-- ---- texts

-- the lines so far and the one that a part of a text spells
abbrev pub line_adds : Scale → ℕ → List LogLine → Bool → List ℕ → Result (List LogLine) TextWhy
line_adds scale version lines ended text =
    line_of scale version ended (spaced_words text) >>= λ l. Ok (lines ++ l ∷ [])

-- the lines so far and then those of the parts between LFs, numbered on: each but the last is
-- ended, and an empty last one is no line
abbrev pub parts_add : Scale → ℕ → List LogLine → ℕ → List (List ℕ) → Result (List LogLine) TextFault
parts_add scale version lines number [] = Ok lines
parts_add scale version lines number (last ∷ []) =
    if length last == 0 then Ok lines else at_line number (line_adds scale version lines false last)
parts_add scale version lines number (part ∷ next ∷ parts) =
    at_line number (line_adds scale version lines true part)
    >>= λ more. parts_add scale version more (number + 1) (next ∷ parts)

-- the parts of a text between LFs
abbrev pub parts_of_text : List ℕ → List (List ℕ)
parts_of_text bytes = slice_split (λ b. b == 10) bytes

-- the version by which parts are read: the one that the first of them names where it is the one
-- that is written or that of ids, and otherwise the old one
abbrev pub version_in : List (List ℕ) → ℕ
version_in [] = OLD_VERSION
version_in (first ∷ parts) =
    if bytes_eq first (body_of (line.First VERSION)) then VERSION
    else if bytes_eq first (body_of (line.First IDS_VERSION)) then IDS_VERSION
    else OLD_VERSION

-- the version by which a text is read
abbrev pub version_of : List ℕ → ℕ
version_of bytes = version_in (parts_of_text bytes)

-- the lines of a text, or the first that is no spelling by a scale
abbrev pub log_of : Scale → List ℕ → Result (List LogLine) TextFault
log_of scale bytes = parts_add scale (version_of bytes) [] 1 (parts_of_text bytes)
