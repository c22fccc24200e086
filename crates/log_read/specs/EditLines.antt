-- The grammar of the lines that tell of blocks, passes and edits.
use Rattle.std.specs.Prelude.{ℕ, ◌+◌, ◌-◌, ◌&&◌, Bool, if◌then◌else◌, List, [], ◌∷◌, ◌++◌, length, drop, nat_lt, is_some, Result, Ok, Err, codes}
use Rattle.std.specs.Str.{bytes_eq}
use Rattle.edit_base.specs.declared.Asked.TheVariants as asked
use Rattle.edit_base.specs.declared.Change.TheVariants as change
use Rattle.edit_base.specs.declared.CopyAt.{CopyAt}
use Rattle.edit_base.specs.declared.PassKind.TheVariants as pass
use Rattle.edit_base.specs.declared.Why.{Why}
use Rattle.grid_base.specs.declared.TheConstants.{ID_MAX, LENGTH_MAX}
use Rattle.line_text.specs.declared.TextWhy.{TextWhy}
use Rattle.line_text.specs.declared.TextWhy.TheVariants as why
use Rattle.line_text.specs.Faults.{◌>>=◌}
use Rattle.line_text.specs.Spellings.{spelled_number, spelled_from, spelled_at, count_with_end}
use Rattle.log_text.specs.declared.TheConstants.{TURN_MAX}
use Rattle.log_text.specs.declared.LogLine.{LogLine}
use Rattle.log_text.specs.declared.LogLine.TheVariants as line
use Rattle.log_text.specs.declared.NewIds.{NewIds}
use Rattle.log_read.specs.Fields.{Reader, both}
use Rattle.log_read.specs.Values.{is_later, edge_at, position_at, place_at, reason_of, reason_at, whole, without_more_words}

-- ---- passes

-- the length that a pass goes by
abbrev pub length_of : Bool → List (List ℕ) → Result ℕ TextWhy
length_of ended words = whole ended 1 (spelled_at 0 LENGTH_MAX) words

-- pass: the kind, and the length of those that go by one; the old version tells of no
-- pass by the sizing
unfoldable pub pass_of : ℕ → Bool → List (List ℕ) → Result LogLine TextWhy
pass_of version ended [] = Err why.Short
pass_of version ended (kind ∷ words) =
    if bytes_eq kind (codes "split")
    then (length_of ended words >>= λ n. Ok (line.Pass (pass.Split n)))
    else if bytes_eq kind (codes "collapse")
    then (length_of ended words >>= λ n. Ok (line.Pass (pass.Collapse n)))
    else if bytes_eq kind (codes "flip") then without_more_words ended (line.Pass pass.Flip) words
    else if bytes_eq kind (codes "zip")
    then (length_of ended words >>= λ n. Ok (line.Pass (pass.Zip n)))
    else if bytes_eq kind (codes "pinch") then without_more_words ended (line.Pass pass.Pinch) words
    else if bytes_eq kind (codes "fit") && is_later version then without_more_words ended line.PassFit words
    else Err why.Unknown

-- ---- edits that are done

-- split A B W X Y Z
unfoldable pub split_of : Bool → List (List ℕ) → Result LogLine TextWhy
split_of ended words =
    whole ended 6 (both edge_at place_at) words
    >>= λ s. Ok (line.Did (change.Split s.0.0 s.0.1 s.1.w s.1.at))

-- flip A B
unfoldable pub flip_of : Bool → List (List ℕ) → Result LogLine TextWhy
flip_of ended words = whole ended 2 edge_at words >>= λ e. Ok (line.Did (change.Flip e.0 e.1))

-- collapse A B X Y Z
unfoldable pub collapse_of : Bool → List (List ℕ) → Result LogLine TextWhy
collapse_of ended words =
    whole ended 5 (both edge_at position_at) words
    >>= λ c. Ok (line.Did (change.Collapse c.0.0 c.0.1 c.1))

-- two edges and the turn
unfoldable pub zip_of : Bool → List (List ℕ) → Result LogLine TextWhy
zip_of ended words =
    whole ended 5 (both edge_at (both edge_at (spelled_at 0 TURN_MAX))) words
    >>= λ z. Ok (line.Did (change.Zip z.0.0 z.0.1 z.1.0.0 z.1.0.1 z.1.1))

-- ---- edits that are not done

-- as many words after the reason as it asks for, which is as many as there are
-- where it is misspelt, and the LF
unfoldable pub reason_with_end : ℕ → Bool → List (List ℕ) → Result (Unit {0}) TextWhy
reason_with_end version ended [] = Err why.Short
reason_with_end version ended (word ∷ words) =
    if bytes_eq word (codes "hit") then count_with_end ended 3 words
    else if is_some (reason_of version word) then count_with_end ended 0 words
    else if ended then Ok tt
    else Err why.Short

-- so many words that name what was asked, and the reason
unfoldable pub asked_of : {A : Type 0} → ℕ → Bool → ℕ → Reader A → List (List ℕ) →
    Result (A × Why) TextWhy
asked_of version ended count read words = do
  counted ← reason_with_end version ended (drop count words)
  found ← both read (reason_at version) words
  Ok found.0

-- no: the edit that was asked for, and the reason
unfoldable pub no_of : ℕ → Bool → List (List ℕ) → Result LogLine TextWhy
no_of version ended [] = Err why.Short
no_of version ended (edit ∷ words) =
    if bytes_eq edit (codes "split")
    then (asked_of version ended 2 edge_at words
    >>= λ n. Ok (line.No (asked.Split n.0.0 n.0.1) n.1))
    else if bytes_eq edit (codes "flip")
    then (asked_of version ended 2 edge_at words >>= λ n. Ok (line.No (asked.Flip n.0.0 n.0.1) n.1))
    else if bytes_eq edit (codes "collapse")
    then (asked_of version ended 2 edge_at words
    >>= λ n. Ok (line.No (asked.Collapse n.0.0 n.0.1) n.1))
    else if bytes_eq edit (codes "zip")
    then (asked_of version ended 4 (both edge_at edge_at) words
    >>= λ n. Ok (line.No (asked.Zip n.0.0.0 n.0.0.1 n.0.1.0 n.0.1.1) n.1))
    else if bytes_eq edit (codes "pinch")
    then (asked_of version ended 1 (spelled_at 1 ID_MAX) words
    >>= λ n. Ok (line.No (asked.Pinch n.0) n.1))
    else Err why.Unknown

-- the line of a pass or an edit, by its first word
unfoldable pub edit_of : ℕ → Bool → List ℕ → List (List ℕ) → Result LogLine TextWhy
edit_of version ended first words =
    if bytes_eq first (codes "pass") then pass_of version ended words
    else if bytes_eq first (codes "split") then split_of ended words
    else if bytes_eq first (codes "flip") then flip_of ended words
    else if bytes_eq first (codes "collapse") then collapse_of ended words
    else if bytes_eq first (codes "zip") then zip_of ended words
    else if bytes_eq first (codes "no") then no_of version ended words
    else Err why.Unknown

-- ---- lines that end in a list

-- so many words or more, and the LF
unfoldable pub at_least : Bool → ℕ → List (List ℕ) → Result (Unit {0}) TextWhy
at_least ended count words =
    if nat_lt (length words) count then Err why.Short else if ended then Ok tt else Err why.Short

-- the ids so far, and then those that the words spell, each above the one before and none above
-- the most
abbrev pub ids_add : ℕ → List ℕ → ℕ → List (List ℕ) → Result (List ℕ) TextWhy
ids_add most ids low [] = Ok ids
ids_add most ids low (word ∷ words) =
    spelled_from low most (spelled_number word)
    >>= λ v. ids_add most (ids ++ v ∷ []) (v + 1) words

-- two ids or more, rising
unfoldable pub block_of : Bool → List (List ℕ) → Result LogLine TextWhy
block_of ended words = do
  counted ← at_least ended 2 words
  ids ← ids_add ID_MAX [] 1 words
  Ok (line.Block ids)

-- the next id, where none or more stand after it
unfoldable pub next_of : Bool → Reader ℕ
next_of ended words = do
  counted ← at_least ended 1 words
  spelled_at 1 (ID_MAX + 1) words

-- the next id, and the ids that are taken, rising and below it
unfoldable pub new_ids_of : Bool → List (List ℕ) → Result NewIds TextWhy
new_ids_of ended words = do
  next ← next_of ended words
  ids ← ids_add (next.0 - 1) [] 1 next.1
  Ok (record { next = next.0; ids = ids })

-- the words stand four by four
abbrev pub four_by_four : List (List ℕ) → Result (Unit {0}) TextWhy
four_by_four [] = Ok tt
four_by_four (w ∷ []) = Err why.Short
four_by_four (w ∷ x ∷ []) = Err why.Short
four_by_four (w ∷ x ∷ y ∷ []) = Err why.Short
four_by_four (w ∷ x ∷ y ∷ z ∷ words) = four_by_four words

-- the places so far, and then those that the words spell, four words each
abbrev pub places_add : List CopyAt → List (List ℕ) → Result (List CopyAt) TextWhy
places_add places [] = Ok places
places_add places (w ∷ []) = Err why.Short
places_add places (w ∷ x ∷ []) = Err why.Short
places_add places (w ∷ x ∷ y ∷ []) = Err why.Short
places_add places (w ∷ x ∷ y ∷ z ∷ words) =
    place_at (w ∷ x ∷ y ∷ z ∷ words) >>= λ place. places_add (places ++ place.0 ∷ []) words

-- the vertex and its point, where one copy or more stands after it
unfoldable pub first_place : Bool → Reader CopyAt
first_place ended words = do
  counted ← at_least ended 8 words
  whole ← four_by_four words
  place_at words

-- the vertex and its copies, each with its point
unfoldable pub pinch_of : Bool → List (List ℕ) → Result LogLine TextWhy
pinch_of ended words = do
  first ← first_place ended words
  copies ← places_add [] first.1
  Ok (line.Did (change.Pinch first.0.w first.0.at copies))
