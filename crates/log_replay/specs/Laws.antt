-- Laws of replays.
use Rattle.std.specs.Prelude.{◌≡◌, ◌≤◌, List, ◌++◌}
use Rattle.std.specs.List.{AllByRecursion}
use Rattle.mesh_base.specs.declared.Limits.{Limits}
use Rattle.mesh_base.specs.declared.Scale.{Scale}
use Rattle.mesh_base.specs.declared.Scale.TheVariants.{Large}
use Rattle.mesh_base.specs.Limits.{limits_of}
use Rattle.mesh_base.specs.Mesh.{Mesh, IsSound}
use Rattle.log_text.specs.declared.LogLine.{LogLine}
use Rattle.log_replay.specs.Replay.{Replay, after, mesh_after_lines}
use Rattle.log_replay.specs.OfPass.{AreOfPass}

-- lines after others are replayed from where those lead
abbrev pub ReplaysGoOn : Type 0
ReplaysGoOn = (r : Replay) (xs ys : List LogLine) → after r (xs ++ ys) ≡ after (after r xs) ys

-- lines of a pass change the mesh alone, and by it alone
abbrev pub PassesChangeTheMeshAlone : Type 0
PassesChangeTheMeshAlone = (r : Replay) (lines : List LogLine) → AreOfPass lines →
    after r lines ≡ record r { mesh = mesh_after_lines r.mesh lines }

-- the limits of each mesh of a replay are such: of the one so far, and of those at which its open
-- groups were opened
pub record HaveLimits (Are : Limits → Type 0) (r : Replay) : Type 0 where
  pub mesh : Are r.mesh.limits
  pub groups : AllByRecursion (λ m. Are m.limits) r.stack

-- no line changes the limits
abbrev pub LimitsStay : Type 0
LimitsStay = (limits : Limits) (r : Replay) (lines : List LogLine) →
    HaveLimits (λ l. l ≡ limits) r → HaveLimits (λ l. l ≡ limits) (after r lines)

-- so the mesh that lines make of a mesh has its limits
abbrev pub MeshesKeepLimits : Type 0
MeshesKeepLimits =
    (m : Mesh) (lines : List LogLine) → (mesh_after_lines m lines).limits ≡ m.limits

-- they allow no more vertices and faces than those of a scale
pub record IsWithin (scale : Scale) (limits : Limits) : Type 0 where
  pub vertices : limits.vertices ≤ (limits_of scale).vertices
  pub faces : limits.faces ≤ (limits_of scale).faces

-- so no line leads beyond the limits of a scale
abbrev pub LimitsStayWithin : Type 0
LimitsStayWithin = (scale : Scale) (r : Replay) (lines : List LogLine) →
    HaveLimits (IsWithin scale) r → HaveLimits (IsWithin scale) (after r lines)

-- every sound mesh is within the greatest limits
abbrev pub MeshesAreWithin : Type 0
MeshesAreWithin = (m : Mesh) → IsSound m → IsWithin Large m.limits
