-- Which edits leave a mesh in as many pieces and with the same Euler number.
use Rattle.std.specs.Prelude.{◌≡◌, Bool, true, false}
use Rattle.mesh_base.specs.Mesh.{Mesh, IsSound}
use Rattle.mesh_base.specs.Sides.{IsClosed}
use Rattle.mesh_base.specs.Shifts.{Shifts, with_moves, NameOnce}
use Rattle.edit_base.specs.declared.answers.Change.{Change}
use Rattle.edit_base.specs.declared.answers.Change.TheVariants.{Split, Flip, Collapse, Zip, Pinch}
use Rattle.edit_base.specs.declared.answers.Edit.TheVariants.{Done}
use Rattle.edit_base.specs.Laws.{Answer}
use Rattle.edit_any.specs.Dispatch.{edited}
use Rattle.edit_any.specs.Answered.{IsAnswered}
use Rattle.mesh_measure.specs.Shape.{components, euler}
use Rattle.shape_laws.specs.Link.{has_two_opposites, has_plain_link}

-- The second mesh is in as many pieces as the first, and has its Euler number.
pub record HaveSameShape (m n : Mesh) : Type 0 where
  pub components : components n ≡ components m
  pub euler : euler n ≡ euler m

-- A split keeps the shape where the edge has two opposite vertices, and each flip does. Where the
-- two faces beside an edge have one opposite vertex, a split makes three edges of one, and not
-- four. A zip and a pinch are made to change it. Of a collapse nothing is said here.
abbrev pub keeps_shape : Mesh → Change → Bool
keeps_shape m (Split a b w at) = has_two_opposites m a b
keeps_shape m (Flip a b) = true
keeps_shape m (Collapse a b at) = false
keeps_shape m (Zip a b e f turn) = false
keeps_shape m (Pinch v at copies) = false

-- a collapse keeps it where its edge has a plain link
abbrev pub collapse_keeps_shape : Mesh → Change → Bool
collapse_keeps_shape m (Collapse a b at) = has_plain_link m a b
collapse_keeps_shape m _ = false

-- where it is said of a change that an edit of a closed mesh answers, the change leaves the shape
-- as it was
abbrev pub ShapeStaysIf : Mesh → Change → Bool → Type 0
ShapeStaysIf m change said =
    said ≡ true → IsClosed m → IsAnswered m change → HaveSameShape m (edited m change)

-- moves that name live vertices, none twice, leave the shape as it was
abbrev pub ShapeStaysOnMoves : Type 0
ShapeStaysOnMoves =
    (m : Mesh) (moves : Shifts) → NameOnce m moves → HaveSameShape m (with_moves m moves)

-- a done edit of a sound and closed mesh, of which it is said, leaves the shape as it was
abbrev pub ShapeStays : Answer → Type 0
ShapeStays answer = (m : Mesh) (change : Change) → IsSound m → IsClosed m → answer m ≡ Done change →
    keeps_shape m change ≡ true → HaveSameShape m (edited m change)

-- the same of collapses
abbrev pub ShapeStaysOnCollapse : Answer → Type 0
ShapeStaysOnCollapse answer = (m : Mesh) (change : Change) → IsSound m → IsClosed m →
    answer m ≡ Done change → collapse_keeps_shape m change ≡ true →
    HaveSameShape m (edited m change)

-- each done edit does
abbrev pub ShapeAlwaysStays : Answer → Type 0
ShapeAlwaysStays answer = (m : Mesh) (change : Change) → IsSound m → IsClosed m →
    answer m ≡ Done change → HaveSameShape m (edited m change)
