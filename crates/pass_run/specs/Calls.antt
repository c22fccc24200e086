-- What the calls of passes say of the surface and of what is outside, which both change by a call.
use Rattle.std.specs.Prelude.{◌≡◌, ℕ, Bool, List, ◌++◌, Option, Result}
use Rattle.std.specs.Fn.{Shared}
use Rattle.in_out.specs.InOut.{InOut, value_before, value_after}
use Rattle.mesh_base.specs.Mesh.{Mesh}
use Rattle.log_text.specs.declared.LogLine.{LogLine}
use Rattle.log_replay.specs.Replay.{at_mesh}
use Rattle.log_replay.specs.Safe.{LinesKeepTheMesh}
use Rattle.outside_io.specs.Outside.{Around}
use Rattle.outside_io.specs.declared.stop.Stop.{Stop}
use Rattle.pass_run.specs.declared.passes.PassCount.{PassCount}
use Rattle.pass_run.specs.declared.terms.Turns.{Turns}
use Rattle.pass_run.specs.Results.{Stage, stage, Keeps, PassResult, written_at}
use Rattle.pass_run.specs.Said.{Said}
use Rattle.grid_base.specs.declared.Point.{Point}
use Rattle.mesh_sizing.specs.declared.sizing.Band.{Band}
use Rattle.mesh_sizing.specs.Sizes.{MayAnswer}
use Rattle.pass_run.specs.Fits.{Fits}

-- what is added to a list by a call, at its end
abbrev pub Gains : {A : Type 0} → InOut (List A) → List A → Type 0
Gains list more = value_after list ≡ value_before list ++ more

-- Lines that are told of a mesh keep it: each edit that they tell is safe where it stands, and each
-- line leaves a mesh that is sound, closed and clear.
abbrev pub LinesKeep : (Mesh → List LogLine) → Mesh → Type 0
LinesKeep lines m = LinesKeepTheMesh (at_mesh m) (lines m)

module _ {S O : Type 0} (mesh : S → Mesh) (kept : S → List Mesh) (around : O → Around)
    (surface : InOut S) (outside : InOut O) where
  -- where a pass stands before the call
  abbrev pub stage_before : Stage
  stage_before = stage mesh kept around (value_before surface) (value_before outside)

  -- and after it
  abbrev pub stage_after : Stage
  stage_after = stage mesh kept around (value_after surface) (value_after outside)

  -- The lines of the opening mesh were said and counted, or the first of them.
  abbrev pub PassTells : (Mesh → List LogLine) → Result PassCount Stop → Type 0
  PassTells lines result = PassResult (lines stage_before.mesh) stage_before stage_after result

  -- The lines of a pass by a sizing were said and counted, or the first of them; they lead to the
  -- mesh that the call leaves, and each keeps a mesh sound, closed and clear. The sizing may answer
  -- what its closure may.
  abbrev pub FitTells : {G : Type 0} → Shared G (Point × Unit {0}) Band → Turns G →
      Result PassCount Stop → Type 0
  FitTells closures turns result =
      Fits (MayAnswer closures turns.by.now) turns.depth turns.grouped stage_before.mesh
      stage_after.mesh (written_at stage_before) (written_at stage_after) result

  -- The mesh is closed and clear, earlier marks hold, and the desk is left alone.
  abbrev pub CallKeeps : {T : Type 0} → Result T Stop → Type 0
  CallKeeps result = Keeps stage_before stage_after result

module _ {S K : Type 0} (mesh : S → Mesh) (written : K → Option (List ℕ)) (surface : InOut S)
    (sink : InOut K) where
  -- The lines of the opening mesh were written to the sink, or the first of them, and lead to the
  -- mesh that the call leaves.
  abbrev pub SinkHas : {T E : Type 0} → (Mesh → List LogLine) → Result T E → Type 0
  SinkHas lines result =
      let from = mesh (value_before surface) in
      Said from (mesh (value_after surface)) (written (value_before sink))
      (written (value_after sink)) (lines from) result

  -- The lines of a pass by a sizing were written to the sink and counted, or the first of them; they
  -- lead to the mesh that the call leaves, and each keeps a mesh sound, closed and clear. The sizing
  -- may answer what its closure may.
  abbrev pub SinkHasFit : {G E : Type 0} → Shared G (Point × Unit {0}) Band → G → ℕ → Bool →
      Result PassCount E → Type 0
  SinkHasFit closures sizing depth grouped result =
      Fits (MayAnswer closures sizing) depth grouped (mesh (value_before surface))
      (mesh (value_after surface)) (written (value_before sink)) (written (value_after sink)) result
