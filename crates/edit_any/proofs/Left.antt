-- The mesh that a call of one edit leaves is the one that the edit asked for leaves.
use Rattle.std.proofs.Common.{◌≡◌, Result, Ok, Err, refl, sym}
use Rattle.std.specs.Prelude.{IfOk}
use Rattle.grid_base.specs.declared.NoMemory.{NoMemory}
use Rattle.mesh_base.specs.Mesh.{Mesh}
use Rattle.edit_base.specs.declared.answers.Change.{Change}
use Rattle.edit_base.specs.declared.answers.Edit.{Edit}
use Rattle.edit_base.specs.declared.answers.Edit.TheVariants.{Done, No}
use Rattle.edit_base.specs.Clauses.{mesh_after_call}
use Rattle.edit_base.specs.Laws.{Answer, Makes, AlwaysMakes}

pub left_alike : (kind : Change → Type 0) (one other : Makes) (answer : Answer) → AlwaysMakes kind answer → ((m : Mesh) (change : Change) → kind change → one m change ≡ other m change)
    → (m : Mesh) (result : Result Edit NoMemory) → IfOk result (λ edit. edit ≡ answer m) → mesh_after_call one m result ≡ mesh_after_call other m result
left_alike kind one other answer always same m (Ok (Done change)) e = same m change (always m change (sym e))
left_alike kind one other answer always same m (Ok (No why)) e = refl
left_alike kind one other answer always same m (Err fault) e = refl
