-- The laws of edits, as statements.
use Rattle.std.specs.Prelude.{◌≡◌, ◌↔◌, ℕ, Bool, true, List, Option}
use Rattle.std.specs.List.{Contains}
use Rattle.std.proofs.Common.{None}
use Rattle.grid_base.specs.declared.Positions.{Positions}
use Rattle.edit_base.specs.declared.answers.Change.{Change}
use Rattle.edit_base.specs.declared.answers.Edit.{Edit}
use Rattle.edit_base.specs.declared.answers.Edit.TheVariants.{Done}
use Rattle.mesh_base.specs.Mesh.{Mesh, IsSound}
use Rattle.mesh_base.specs.Sides.{IsClosed}
use Rattle.mesh_base.specs.Placements.{IsClearMesh}
use Rattle.edit_base.specs.Scaffold.{Scaffold, motion_of, first_failing, IsClearBut}
use Rattle.edit_base.specs.Edges.{Edge, edge_of, are_ends}
use Rattle.edit_base.specs.Clauses.{MovesClear}
use Rattle.edit_base.specs.Classes.{Linked, class_of}

-- Where no pair fails to do what is required, the motion is clear.
abbrev pub NoneFailingIsClear : (Positions → Bool) → Type 0
NoneFailingIsClear meets =
    (s : Scaffold) (depth : ℕ) → IsSound s.mesh → first_failing meets s depth ≡ None →
    IsClearBut s.touch s.mesh (motion_of s)

-- what holds of each edge of a sound and closed mesh, named by its two ends in any order
abbrev pub OfEachEdge : (Mesh → Edge → Type 0) → Type 0
OfEachEdge law =
    (m : Mesh) (u v : ℕ) → IsSound m → IsClosed m → are_ends m u v ≡ true → law m (edge_of m u v)

-- an edit, by its answer
abbrev pub Answer : Type 0
Answer = Mesh → Edit

-- what a done edit makes of a mesh
abbrev pub Makes : Type 0
Makes = Mesh → Change → Mesh

-- a done edit is a change of this kind
abbrev pub AlwaysMakes : (Change → Type 0) → Answer → Type 0
AlwaysMakes kind answer = (m : Mesh) (change : Change) → answer m ≡ Done change → kind change

-- a done edit of a sound and closed mesh leaves a sound one
abbrev pub StaysSound : Makes → Answer → Type 0
StaysSound result answer = (m : Mesh) (change : Change) → IsSound m → IsClosed m →
    answer m ≡ Done change → IsSound (result m change)

-- and a closed one
abbrev pub StaysClosed : Makes → Answer → Type 0
StaysClosed result answer = (m : Mesh) (change : Change) → IsSound m → IsClosed m →
    answer m ≡ Done change → IsClosed (result m change)

-- where the mesh is clear as well, a done edit leaves a clear one
abbrev pub StaysClear : Makes → Answer → Type 0
StaysClear result answer = (m : Mesh) (change : Change) → IsSound m → IsClosed m → IsClearMesh m →
    answer m ≡ Done change → IsClearMesh (result m change)

-- the motion of a done edit is clear
abbrev pub MotionIsClear : (Mesh → Change → Option Scaffold) → Answer → Type 0
MotionIsClear scaffold answer = (m : Mesh) (change : Change) → IsSound m → IsClosed m →
    answer m ≡ Done change → MovesClear scaffold m change

-- A class has the numbers of the list to which a chain leads, and no others.
abbrev pub ClassesAreLinked : Type 0
ClassesAreLinked = (touch : ℕ → ℕ → Bool) (all : List ℕ) (x y : ℕ) → Contains all x →
    Contains (class_of touch all x) y ↔ (Contains all y × Linked touch all x y)
