-- When a pinch is tried, and what a try leaves.
use Rattle.std.specs.Prelude.{⊤, ◌≡◌, ℕ, Bool, false, List, length, drop, nat_lt, Result, Ok, Err}
use Rattle.std.proofs.Common.{Option, Some, None}
use Rattle.grid_base.specs.declared.NoMemory.{NoMemory}
use Rattle.mesh_base.specs.declared.ids.PairName.{PairName}
use Rattle.mesh_base.specs.Mesh.{Mesh, IsLiveVertex, is_solid}
use Rattle.mesh_base.specs.Sides.{IsClosed}
use Rattle.mesh_base.specs.Limits.{is_over_limits}
use Rattle.edit_pinch.specs.Pinch.{fans, pinch_scaffold}

-- two fans meet at the vertex, it is not solid, and the pinch passes no limit
pub record MayBeTried (m : Mesh) (v : ℕ) : Type 0 where
  pub two_fans : nat_lt (length (fans m v)) 2 ≡ false
  pub may_move : is_solid m v ≡ false
  pub fits : is_over_limits (pinch_scaffold m v).mesh ≡ false

-- the answer is whether a pinch of a vertex of a closed mesh, which has these fans after its first,
-- would pass a limit
abbrev pub TellsOver : Mesh → List (List ℕ) → Bool → Type 0
TellsOver m others answer = (v : ℕ) → IsClosed m → IsLiveVertex m v → others ≡ drop 1 (fans m v) →
    answer ≡ is_over_limits (pinch_scaffold m v).mesh

-- the mesh that a try leaves: what it made, where no pair fails to do what is
-- required, and else the mesh before
abbrev pub left_by : Mesh → Mesh → Result (Option PairName) NoMemory → Mesh
left_by old made (Ok None) = made
left_by old made (Ok (Some p)) = old
left_by old made (Err fault) = old

-- unless a try makes it, the kept meshes are those before
abbrev pub KeepsUnlessMade : Result (Option PairName) NoMemory → List Mesh → List Mesh → Type 0
KeepsUnlessMade (Ok None) new old = ⊤
KeepsUnlessMade (Ok (Some p)) new old = new ≡ old
KeepsUnlessMade (Err fault) new old = new ≡ old
