-- Which vertices are pinched.
use Rattle.std.specs.Prelude.{◌≡◌, ℕ, false}
use Rattle.edit_base.specs.declared.answers.Change.{Change}
use Rattle.edit_base.specs.declared.answers.Edit.TheVariants.{Done}
use Rattle.mesh_base.specs.Mesh.{Mesh, is_solid}
use Rattle.edit_base.specs.Laws.{Answer}

-- where it is done the vertex is not solid
abbrev pub PinchesNoneSolid : ℕ → Answer → Type 0
PinchesNoneSolid v answer =
    (m : Mesh) (change : Change) → answer m ≡ Done change → is_solid m v ≡ false
