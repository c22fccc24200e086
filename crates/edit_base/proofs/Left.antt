-- What a call leaves, by its answer: a closed and clear mesh, and a motion that was clear.
use Rattle.std.proofs.Common.{◌≡◌, Option, sym}
use Rattle.std.specs.Prelude.{Result, Ok, Err, IfOk}
use Rattle.grid_base.specs.declared.NoMemory.{NoMemory}
use Rattle.mesh_base.specs.Mesh.{Mesh, IsSound}
use Rattle.mesh_base.specs.Sides.{IsClosed}
use Rattle.mesh_base.specs.Placements.{IsClearMesh}
use Rattle.edit_base.specs.declared.answers.Change.{Change}
use Rattle.edit_base.specs.declared.answers.Edit.{Edit}
use Rattle.edit_base.specs.declared.answers.Edit.TheVariants.{Done, No}
use Rattle.edit_base.specs.Scaffold.{Scaffold}
use Rattle.edit_base.specs.Clauses.{mesh_after_call, MovesClearOnDone}
use Rattle.edit_base.specs.Laws.{Answer, Makes, StaysClosed, StaysClear, MotionIsClear}

module _ (makes : Makes) (answer : Answer) (m : Mesh) (sound : IsSound m) (closed : IsClosed m) where
  pub left_is_closed : StaysClosed makes answer → (result : Result Edit NoMemory) → IfOk result (λ edit. edit ≡ answer m) → IsClosed (mesh_after_call makes m result)
  left_is_closed stays (Ok (Done change)) e = stays m change sound closed (sym e)
  left_is_closed stays (Ok (No why)) e = closed
  left_is_closed stays (Err fault) e = closed

  pub left_is_clear : StaysClear makes answer → IsClearMesh m → (result : Result Edit NoMemory) → IfOk result (λ edit. edit ≡ answer m) → IsClearMesh (mesh_after_call makes m result)
  left_is_clear stays clear (Ok (Done change)) e = stays m change sound closed clear (sym e)
  left_is_clear stays clear (Ok (No why)) e = clear
  left_is_clear stays clear (Err fault) e = clear

module _ (scaffold : Mesh → Change → Option Scaffold) (answer : Answer) (m : Mesh) (sound : IsSound m) (closed : IsClosed m) where
  pub motion_was_clear : MotionIsClear scaffold answer → (result : Result Edit NoMemory) → IfOk result (λ edit. edit ≡ answer m) → IfOk result (λ edit. MovesClearOnDone scaffold m edit)
  motion_was_clear moves (Ok (Done change)) e = moves m change sound closed (sym e)
  motion_was_clear moves (Ok (No why)) e = tt
  motion_was_clear moves (Err fault) e = tt
