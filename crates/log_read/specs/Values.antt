-- Values of a log's lines, as words spell them.
use Rattle.std.specs.Prelude.{ℕ, ◌+◌, ◌&&◌, nat_lt, Bool, if◌then◌else◌, List, [], ◌∷◌, Option, Some, None, Result, Ok, Err, codes}
use Rattle.std.specs.Str.{bytes_eq}
use Rattle.edit_base.specs.declared.CopyAt.{CopyAt}
use Rattle.edit_base.specs.declared.Why.{Why}
use Rattle.edit_base.specs.declared.Why.TheVariants as reason
use Rattle.grid_base.specs.declared.TheConstants.{BOX, ID_MAX, SHIFT_MAX}
use Rattle.grid_base.specs.declared.grid.Point.{Point}
use Rattle.grid_base.specs.Points.{point_at, shift_by}
use Rattle.line_text.specs.declared.TextWhy.{TextWhy}
use Rattle.line_text.specs.declared.TextWhy.TheVariants as why
use Rattle.line_text.specs.declared.TextFault.{TextFault}
use Rattle.line_text.specs.Faults.{◌>>=◌}
use Rattle.line_text.specs.Spellings.{spelled_at, spelled_signed_at, count_with_end}
use Rattle.mesh_base.specs.declared.PairName.{PairName}
use Rattle.mesh_base.specs.declared.ShiftOf.{ShiftOf}
use Rattle.log_text.specs.declared.TheConstants.{COUNT_MAX, OLD_VERSION}
use Rattle.log_read.specs.Fields.{Reader, or_number, in_turn, both}

-- whether it is a version after the old one, which tells of no solid vertices and groups
abbrev pub is_later : ℕ → Bool
is_later version = nat_lt OLD_VERSION version

-- the smaller end of an edge, its larger end, and a face
unfoldable pub pair_at : Reader PairName
pair_at words = do
  found ← in_turn (spelled_at 1 ID_MAX)
      (λ a. both (spelled_at (a + 1) ID_MAX) (spelled_at 1 ID_MAX)) words
  Ok (record { a = found.0.0; b = found.0.1.0; face = found.0.1.1 }, found.1)

-- a vertex and its shift
unfoldable pub shift_of_at : Reader ShiftOf
shift_of_at words = do
  found ← both (spelled_at 1 ID_MAX) (both (spelled_signed_at SHIFT_MAX)
      (both (spelled_signed_at SHIFT_MAX) (spelled_signed_at SHIFT_MAX))) words
  Ok (record { v = found.0.0; by = shift_by (record { x = found.0.1.0; y = found.0.1.1.0; z = found.0.1.1.1 }) }, found.1)

-- the reason that a word names, of a text with or without groups
unfoldable pub why_of : Bool → List ℕ → Option TextWhy
why_of groups word =
    if bytes_eq word (codes "number") then Some why.Number
    else if bytes_eq word (codes "corner") then Some why.Corner
    else if bytes_eq word (codes "range") then Some why.Range
    else if bytes_eq word (codes "short") then Some why.Short
    else if bytes_eq word (codes "long") then Some why.Long
    else if bytes_eq word (codes "unknown") then Some why.Unknown
    else if bytes_eq word (codes "continuation") then Some why.Continuation
    else if bytes_eq word (codes "nesting") && groups then Some why.Nesting
    else None

-- the next word as such a reason
unfoldable pub why_at : Bool → Reader TextWhy
why_at groups [] = Err why.Short
why_at groups (word ∷ words) = or_number (why_of groups word) >>= λ found. Ok (found, words)

-- the number of a line and the reason why it can't be read, of a text with or without groups
unfoldable pub fault_at : Bool → Reader TextFault
fault_at groups words = do
  found ← both (spelled_at 1 COUNT_MAX) (why_at groups) words
  Ok (record { line = found.0.0; why = found.0.1 }, found.1)

-- the two ends of an edge, the smaller first
unfoldable pub edge_at : Reader (ℕ × ℕ)
edge_at words = in_turn (spelled_at 1 ID_MAX) (λ a. spelled_at (a + 1) ID_MAX) words

-- a point of the box
unfoldable pub position_at : Reader Point
position_at words = do
  found ← both (spelled_signed_at BOX) (both (spelled_signed_at BOX) (spelled_signed_at BOX)) words
  Ok (point_at (record { x = found.0.0; y = found.0.1.0; z = found.0.1.1 }), found.1)

-- a vertex, and the point where it stands
unfoldable pub place_at : Reader CopyAt
place_at words = do
  found ← both (spelled_at 1 ID_MAX) position_at words
  Ok (record { w = found.0.0; at = found.0.1 }, found.1)

-- the reason of one word why an edit isn't done
unfoldable pub reason_of : ℕ → List ℕ → Option Why
reason_of version word =
    if bytes_eq word (codes "noedge") then Some reason.NoEdge
    else if bytes_eq word (codes "crowded") then Some reason.Crowded
    else if bytes_eq word (codes "edge") then Some reason.Edge
    else if bytes_eq word (codes "shared") then Some reason.Shared
    else if bytes_eq word (codes "full") then Some reason.Full
    else if bytes_eq word (codes "doubled") then Some reason.Doubled
    else if bytes_eq word (codes "onefan") then Some reason.OneFan
    else if bytes_eq word (codes "solid") && is_later version then Some reason.Solid
    else None

-- the reason, which has a pair after it where it is `hit`
unfoldable pub reason_at : ℕ → Reader Why
reason_at version [] = Err why.Short
reason_at version (word ∷ words) =
    if bytes_eq word (codes "hit") then (pair_at words >>= λ pair. Ok (reason.Hit pair.0, pair.1))
    else (or_number (reason_of version word) >>= λ found. Ok (found, words))

-- ---- how many words there are

-- exactly so many words, and the value that they give
abbrev pub whole : {A : Type 0} → Bool → ℕ → Reader A → List (List ℕ) → Result A TextWhy
whole ended count read words =
    count_with_end ended count words >>= λ counted. read words >>= λ found. Ok found.0

-- a line with no further word
abbrev pub without_more_words : {A : Type 0} → Bool → A → List (List ℕ) → Result A TextWhy
without_more_words ended l words = count_with_end ended 0 words >>= λ counted. Ok l
