-- Edits as a caller in C asks for them, and what came of each as that caller gets it.
use Rattle.std.specs.Prelude.{◌≡◌, ℕ, ◌==◌, ◌&&◌, Bool, nat_le, nat_lt, pos, List, [], ◌∷◌, ◌++◌, length, slice_get, Option, Some, None, if◌then◌else◌}
use Rattle.std.specs.List.{AllByRecursion}
use Rattle.grid_base.specs.declared.TheConstants.{ID_MAX}
use Rattle.grid_base.specs.declared.Point.{Point}
use Rattle.edit_base.specs.declared.Asked.{Asked}
use Rattle.edit_base.specs.declared.Asked.TheVariants as asked
use Rattle.edit_base.specs.declared.Change.{Change}
use Rattle.edit_base.specs.declared.Change.TheVariants as change
use Rattle.edit_base.specs.declared.CopyAt.{CopyAt}
use Rattle.edit_base.specs.declared.Edit.{Edit}
use Rattle.edit_base.specs.declared.Edit.TheVariants as edit
use Rattle.edit_base.specs.declared.Why.{Why}
use Rattle.edit_base.specs.declared.Why.TheVariants as why
use Rattle.log_read.specs.Laws.{IsAskedInRange}
use Rattle.track_held.specs.declared.given_edits.GivenEdit.{GivenEdit}
use Rattle.track_held.specs.declared.given_edits.ToldAnswer.{ToldAnswer}

-- ---- what is asked

-- whether a vertex may have this id
abbrev pub is_id : ℕ → Bool
is_id v = nat_le 1 v && nat_le v ID_MAX

-- the ends of an edge, the smaller first, as lines of a log name one; none, where one may not be an
-- id, or both are one
abbrev pub ends : ℕ → ℕ → Option (ℕ × ℕ)
ends a b =
    if is_id a && is_id b
    then (if nat_lt a b then Some (a, b) else if nat_lt b a then Some (b, a) else None)
    else None

-- the edit of an edge
abbrev pub edge_edit : (ℕ → ℕ → Asked) → Option (ℕ × ℕ) → Option Asked
edge_edit what None = None
edge_edit what (Some e) = Some (what e.0 e.1)

-- the zip of two edges
abbrev pub zip_edit : Option (ℕ × ℕ) → Option (ℕ × ℕ) → Option Asked
zip_edit (Some e) (Some f) = Some (asked.Zip e.0 e.1 f.0 f.1)
zip_edit (Some e) None = None
zip_edit None f = None

-- the pinch of a vertex, if it may have this id
abbrev pub pinch_edit : ℕ → Option Asked
pinch_edit v = if is_id v then Some (asked.Pinch v) else None

-- The edit that is asked for, by its kind: 2 a split, 3 a flip, 4 a collapse and 5 a zip of edges, 6
-- a pinch, as in what events tell. None, where the kind is another, one of its ids none that a
-- vertex may have, or the two ends of an edge are one.
abbrev pub edit_asked : GivenEdit → Option Asked
edit_asked row =
    if row.kind == 2 then edge_edit asked.Split (ends row.a row.b)
    else if row.kind == 3 then edge_edit asked.Flip (ends row.a row.b)
    else if row.kind == 4 then edge_edit asked.Collapse (ends row.a row.b)
    else if row.kind == 5 then zip_edit (ends row.a row.b) (ends row.c row.d)
    else if row.kind == 6 then pinch_edit row.a
    else None

-- an edit behind others, and then the rest of them; none, where it is none
abbrev pub asked_then : Option Asked → List Asked → (List Asked → Option (List Asked)) →
    Option (List Asked)
asked_then None done rest = None
asked_then (Some what) done rest = rest (done ++ what ∷ [])

-- the edits so far, and then those of these rows; none, where a row is none
abbrev pub edits_add : List Asked → List GivenEdit → Option (List Asked)
edits_add done [] = Some done
edits_add done (row ∷ rows) = asked_then (edit_asked row) done (λ more. edits_add more rows)

-- the edits of rows; none, where one of the rows is none
abbrev pub edits_asked : List GivenEdit → Option (List Asked)
edits_asked rows = edits_add [] rows

-- they are in the ranges of the log
abbrev pub RowsAskInRange : Type 0
RowsAskInRange = (rows : List GivenEdit) (asked : List Asked) → edits_asked rows ≡ Some asked →
    AllByRecursion IsAskedInRange asked

-- and there are as many of them as rows
abbrev pub RowsAskEach : Type 0
RowsAskEach = (rows : List GivenEdit) (asked : List Asked) → edits_asked rows ≡ Some asked →
    length asked ≡ length rows

-- ---- what came of it

-- a done edit, with an id, a number and a place
abbrev pub done_at : ℕ → ℕ → Point → ToldAnswer
done_at a b at = record { why = 0; a = a; b = b; c = 0; x = at.x; y = at.y; z = at.z }

-- a done edit of which nothing more is told than a number
abbrev pub done_with : ℕ → ToldAnswer
done_with b = record { why = 0; a = 0; b = b; c = 0; x = pos 0; y = pos 0; z = pos 0 }

-- the id of the first copy; 0, where there is none
abbrev pub first_copy : Option CopyAt → ℕ
first_copy None = 0
first_copy (Some copy) = copy.w

-- a count, or the greatest number that is told
abbrev pub capped_number : ℕ → ℕ
capped_number count = if nat_lt count 4294967295 then count else 4294967295

-- A done edit: of a split the new vertex, and where it stands; of a collapse where the vertex that
-- is left stands; of a zip which of the four turns; of a pinch the first copy, how many there are,
-- whose ids follow on it, and where the pinched vertex stands.
abbrev pub change_told : Change → ToldAnswer
change_told (change.Split a b w at) = done_at w 0 at
change_told (change.Flip a b) = done_with 0
change_told (change.Collapse a b at) = done_at a 0 at
change_told (change.Zip a b e f turn) = done_with turn
change_told (change.Pinch v at copies) =
    done_at (first_copy (slice_get copies 0)) (capped_number (length copies)) at

-- a reason, with the pair that is its place
abbrev pub reason_at : ℕ → ℕ → ℕ → ℕ → ToldAnswer
reason_at n a b c = record { why = n; a = a; b = b; c = c; x = pos 0; y = pos 0; z = pos 0 }

-- a reason, by its number; of a hit the edge and the face that would meet
abbrev pub why_told : Why → ToldAnswer
why_told why.NoEdge = reason_at 1 0 0 0
why_told why.Crowded = reason_at 2 0 0 0
why_told why.Edge = reason_at 3 0 0 0
why_told why.Shared = reason_at 4 0 0 0
why_told why.Full = reason_at 5 0 0 0
why_told why.Doubled = reason_at 6 0 0 0
why_told why.OneFan = reason_at 7 0 0 0
why_told (why.Hit pair) = reason_at 8 pair.a pair.b pair.face
why_told why.Solid = reason_at 9 0 0 0

-- what came of an edit
abbrev pub answer_told : Edit → ToldAnswer
answer_told (edit.Done done) = change_told done
answer_told (edit.No reason) = why_told reason
