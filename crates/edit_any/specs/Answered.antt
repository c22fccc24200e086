-- Of which edit a change tells, and when it is done at the greatest depth.
use Rattle.std.specs.Prelude.{◌≡◌, ◌≤◌, ℕ, Bool}
use Rattle.grid_base.specs.declared.Positions.{Positions}
use Rattle.grid_base.specs.declared.TheConstants.{DEPTH_MAX}
use Rattle.grid_decided.specs.Decided.{meets_exactly}
use Rattle.mesh_base.specs.Mesh.{Mesh}
use Rattle.edit_base.specs.declared.asked.Asked.{Asked}
use Rattle.edit_base.specs.declared.answers.Change.{Change}
use Rattle.edit_base.specs.declared.answers.Change.TheVariants.{Split, Flip, Collapse, Zip, Pinch}
use Rattle.edit_base.specs.declared.answers.Edit.TheVariants.{Done}
use Rattle.edit_any.specs.Dispatch.{answer_to}

-- the edit of which a change tells that it is done
abbrev pub asked_of : Change → Asked
asked_of (Split a b w at) = Asked.Split a b
asked_of (Flip a b) = Asked.Flip a b
asked_of (Collapse a b at) = Asked.Collapse a b
asked_of (Zip a b e f turn) = Asked.Zip a b e f
asked_of (Pinch v at copies) = Asked.Pinch v

-- the edit, tested to the greatest depth, is done with these ids, points and turn
abbrev pub IsAnswered : Mesh → Change → Type 0
IsAnswered m change = answer_to meets_exactly m DEPTH_MAX (asked_of change) ≡ Done change

-- an edit that is done, tested to some depth, is done with the same change at each greater one
abbrev pub EditsStayDone : Type 0
EditsStayDone =
    (meets : Positions → Bool) (m : Mesh) (what : Asked) (change : Change) (depth deeper : ℕ) →
    depth ≤ deeper →
    answer_to meets m depth what ≡ Done change → answer_to meets m deeper what ≡ Done change

-- an edit that is done is done again, with the same change, where the change says what is asked
abbrev pub ChangesTellTheEdit : Type 0
ChangesTellTheEdit =
    (meets : Positions → Bool) (m : Mesh) (what : Asked) (change : Change) (depth : ℕ) →
    answer_to meets m depth what ≡ Done change →
    answer_to meets m depth (asked_of change) ≡ Done change
