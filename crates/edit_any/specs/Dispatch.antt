-- The five edits as one: what is answered to what is asked, and what a done edit makes of a mesh.
use Rattle.std.specs.Prelude.{ℕ, Bool, Option, None}
use Rattle.grid_base.specs.declared.Positions.{Positions}
use Rattle.grid_base.specs.SeparationTests.{IsExact}
use Rattle.mesh_base.specs.Mesh.{Mesh}
use Rattle.edit_base.specs.declared.asked.Asked.{Asked}
use Rattle.edit_base.specs.declared.answers.Change.{Change}
use Rattle.edit_base.specs.declared.answers.Change.TheVariants.{Split, Flip, Collapse, Zip, Pinch}
use Rattle.edit_base.specs.declared.answers.Edit.{Edit}
use Rattle.edit_base.specs.Scaffold.{Scaffold}
use Rattle.edit_base.specs.Laws.{Answer}
use Rattle.edit_split.specs.Answer.{split_answer}
use Rattle.edit_split.specs.Done.{split_result, split_tested_on}
use Rattle.edit_flip.specs.Answer.{flip_answer}
use Rattle.edit_flip.specs.Done.{flip_result, flip_tested_on}
use Rattle.edit_collapse.specs.Answer.{collapse_answer}
use Rattle.edit_collapse.specs.Done.{collapse_result, collapse_tested_on}
use Rattle.edit_zip.specs.Answer.{zip_answer}
use Rattle.edit_zip.specs.Done.{zip_result}
use Rattle.edit_pinch.specs.Answer.{pinch_answer}
use Rattle.edit_pinch.specs.Done.{pinch_result, pinch_tested_on}

-- what the edit that is asked for answers
abbrev pub answer_to : (Positions → Bool) → Mesh → ℕ → Asked → Edit
answer_to meets m depth (Asked.Split a b) = split_answer meets m a b depth
answer_to meets m depth (Asked.Flip a b) = flip_answer meets m a b depth
answer_to meets m depth (Asked.Collapse a b) = collapse_answer meets m a b depth
answer_to meets m depth (Asked.Zip a b e f) = zip_answer meets m a b e f
answer_to meets m depth (Asked.Pinch v) = pinch_answer meets m v depth

-- what a done edit makes of a mesh, with the points that are written
abbrev pub edited : Mesh → Change → Mesh
edited m (Split a b w at) = split_result m (Split a b w at)
edited m (Flip a b) = flip_result m (Flip a b)
edited m (Collapse a b at) = collapse_result m (Collapse a b at)
edited m (Zip a b e f turn) = zip_result m (Zip a b e f turn)
edited m (Pinch v at copies) = pinch_result m (Pinch v at copies)

-- on what a done edit was tested; a zip moves nothing, and has no scaffold
abbrev pub scaffold_of : Mesh → Change → Option Scaffold
scaffold_of m (Split a b w at) = split_tested_on m (Split a b w at)
scaffold_of m (Flip a b) = flip_tested_on m (Flip a b)
scaffold_of m (Collapse a b at) = collapse_tested_on m (Collapse a b at)
scaffold_of m (Zip a b e f turn) = None
scaffold_of m (Pinch v at copies) = pinch_tested_on m (Pinch v at copies)

-- what holds of each edit: of whatever is asked for, tested by whatever
-- test of meeting to whatever depth
abbrev pub OfEdits : (Answer → Type 0) → Type 0
OfEdits law =
    (meets : Positions → Bool) (depth : ℕ) (what : Asked) → law (λ m. answer_to meets m depth what)

-- what holds of each edit that is tested by an exact test of meeting
abbrev pub OfExactEdits : (Answer → Type 0) → Type 0
OfExactEdits law = (meets : Positions → Bool) → IsExact meets → (depth : ℕ) (what : Asked) →
    law (λ m. answer_to meets m depth what)
