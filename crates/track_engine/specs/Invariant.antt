-- What holds between two directives.
use Rattle.std.specs.Prelude.{◌<◌, ◌+◌, ◌^◌, ℕ, List, [], ◌∷◌, take, if◌then◌else◌}
use Rattle.std.specs.List.{AllByRecursion}
use Rattle.mesh_base.specs.Mesh.{Mesh}
use Rattle.mesh_base.specs.Shifts.{Shifts, NameLive}
use Rattle.mesh_base.specs.Valid.{IsValidSurface}
use Rattle.mesh_base.specs.Kept.{MarkHolds}
use Rattle.pair_scan.specs.Solids.{SolidsRest}
use Rattle.step_text.specs.declared.Directive.{Directive}
use Rattle.step_text.specs.declared.Directive.TheVariants.{Close}
use Rattle.track_engine.specs.declared.open_group.OpenGroup.{OpenGroup}
use Rattle.track_engine.specs.declared.run_state.RunState.{RunState}
use Rattle.track_engine.specs.State.{State}

-- the mesh is sound, closed and clear, and a shift is asked of each live vertex, by rising id,
-- which is zero where the vertex is solid
pub record IsAskedWell (m : Mesh) (asked : Shifts) : Type 0 where
  pub good : IsValidSurface m
  pub names : NameLive m asked
  pub still : SolidsRest m asked

-- that holds of the mesh and the asked shifts, and of those at which each open group was opened
pub record IsRunInvariant (s : State) : Type 0 where
  pub now : IsAskedWell s.mesh s.asked
  pub groups : AllByRecursion (λ group. IsAskedWell group.mesh group.asked) s.groups

-- ---- marks of open groups

-- Each open group's mark holds, and that of each group around it still does when the mesh goes back
-- to the mark. `beyond` is how far a mark's `under` may lie beyond its `place`.
abbrev pub MarksHold : ℕ → List Mesh → List OpenGroup → Type 0
MarksHold beyond kept [] = Unit {0}
MarksHold beyond kept (group ∷ outer) =
    MarkHolds beyond kept group.mark × MarksHold beyond (take group.mark.under kept) outer

-- the kept meshes that a directive leaves: all, but for those since the
-- mark of a group that it takes back
abbrev pub left_by : Directive → List OpenGroup → List Mesh → List Mesh
left_by Close (group ∷ outer) kept = if group.failed then take group.mark.under kept else kept
left_by _ groups kept = kept

-- the counts of steps and of saved meshes have room for so many more
pub record HasRoom (count : ℕ) (run : RunState) : Type 0 where
  pub steps : run.steps + count < 2 ^ 32
  pub saved : run.saved + count < 2 ^ 32
