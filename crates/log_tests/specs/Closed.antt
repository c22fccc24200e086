-- Replays of closed meshes.
use Rattle.std.specs.Prelude.{⊤}
use Rattle.std.specs.List.{AllByRecursion}
use Rattle.mesh_base.specs.Mesh.{Mesh}
use Rattle.mesh_base.specs.Sides.{IsClosed}
use Rattle.mesh_base.specs.Valid.{IsValidSurface}
use Rattle.log_text.specs.declared.LogLine.{LogLine}
use Rattle.log_text.specs.declared.LogLine.TheVariants as line
use Rattle.log_run.specs.States.{LogState}

-- the mesh of a replay is closed, and so is that at which each open group was opened
pub record AreClosed (s : LogState) : Type 0 where
  pub now : IsClosed s.replay.mesh
  pub groups : AllByRecursion IsClosed s.replay.stack

-- a mesh that takes new ids is sound, closed and clear
abbrev pub MayBeNamed : Mesh → LogLine → Type 0
MayBeNamed m (line.Vertices new) = IsValidSurface m
MayBeNamed m (line.Faces new) = IsValidSurface m
MayBeNamed m _ = ⊤
