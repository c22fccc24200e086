-- The collapses that drop a component, asked for one after another.
use Rattle.std.specs.Prelude.{⊤, ◌≡◌, ℕ, Bool, true, false, List, [], ◌∷◌, None}
use Rattle.mesh_base.specs.Mesh.{Mesh}
use Rattle.edit_base.specs.declared.Asked.{Asked}
use Rattle.edit_base.specs.declared.Edit.{Edit}
use Rattle.edit_base.specs.declared.Edit.TheVariants as edit
use Rattle.mesh_measure.specs.Components.{component_vertices}
use Rattle.edit_drop.specs.Drop.{answer_at, after_one, after_each, any_live, drop_collapses, drop_mesh, drop_why}

-- whether an answer says that an edit is done
abbrev pub is_done : Edit → Bool
is_done (edit.Done change) = true
is_done (edit.No why) = false

-- each is done, in the mesh that the one before it leaves
abbrev pub AreDone : ℕ → Mesh → List Asked → Type 0
AreDone depth m [] = ⊤
AreDone depth m (what ∷ rest) =
    (is_done (answer_at depth m what) ≡ true) × AreDone depth (after_one depth m what) rest

-- Where there is no reason against it, none of the vertices of the component lives in the end.
abbrev pub NoneIsLeft : Type 0
NoneIsLeft = (depth : ℕ) (m : Mesh) (v : ℕ) → drop_why depth m v ≡ None →
    any_live (drop_mesh depth m v) (component_vertices m v) ≡ false

-- The collapses alone, without those that were tried and refused between them, are each done, and
-- leave the same mesh.
pub record AreDoneAgain (depth : ℕ) (m : Mesh) (v : ℕ) : Type 0 where
  pub done : AreDone depth m (drop_collapses depth m v)
  pub mesh : after_each depth m (drop_collapses depth m v) ≡ drop_mesh depth m v

-- so it is of each component
abbrev pub CollapsesAreDoneAgain : Type 0
CollapsesAreDoneAgain = (depth : ℕ) (m : Mesh) (v : ℕ) → AreDoneAgain depth m v
