-- What holds of an edit's answer where the kept meshes are those before.
use Rattle.std.proofs.Common.{◌≡◌, List, Result, Ok, Err}
use Rattle.grid_base.specs.declared.NoMemory.{NoMemory}
use Rattle.mesh_base.specs.Mesh.{Mesh}
use Rattle.edit_base.specs.declared.answers.Edit.{Edit}
use Rattle.edit_base.specs.declared.answers.Edit.TheVariants.{Done, No}
use Rattle.edit_base.specs.Clauses.{KeepsOnNo}

-- it is said of any answer
pub keeps : (result : Result Edit NoMemory) (new old : List Mesh) → new ≡ old → KeepsOnNo result new old
keeps (Ok (Done change)) new old h = tt
keeps (Ok (No why)) new old h = h
keeps (Err fault) new old h = h
