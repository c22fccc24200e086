-- Where a run stands between two directives.
use Rattle.std.specs.Prelude.{ℕ, ◌==◌, Bool, true, false, List, [], ◌∷◌, map, slice_get, Option, if◌then◌else◌}
use Rattle.std.specs.Option.{unwrap_or}
use Rattle.std.specs.List.{find}
use Rattle.std.specs.FinMap as finite
use Rattle.grid_base.specs.Points.{no_shift}
use Rattle.mesh_base.specs.declared.ShiftOf.{ShiftOf}
use Rattle.mesh_base.specs.declared.Mark.{Mark}
use Rattle.mesh_base.specs.Mesh.{Mesh, is_solid}
use Rattle.mesh_base.specs.Given.{mesh_of}
use Rattle.mesh_base.specs.Shifts.{Shifts}
use Rattle.step_choose.specs.declared.Settings.{Settings}
use Rattle.step_choose.specs.Settings.{at_first}
use Rattle.log_replay.specs.Replay.{Replay, at_mesh_in_groups}
use Rattle.track_engine.specs.declared.open_group.OpenGroup.{OpenGroup}
use Rattle.track_engine.specs.declared.run_state.RunState.{RunState}

-- an open group: the mesh and the asked shifts at its opening, and whether it has failed
pub record Group : Type 0 where
  pub mesh : Mesh
  pub asked : Shifts
  pub failed : Bool

-- the mesh, the asked shifts, the settings, the numbers of steps taken and of meshes saved so far,
-- and the open groups, the innermost first
pub record State : Type 0 where
  pub mesh : Mesh
  pub asked : Shifts
  pub set : Settings
  pub steps : ℕ
  pub saved : ℕ
  pub groups : List Group

-- the vertex and no shift
abbrev pub still_at : ℕ → ShiftOf
still_at v = record { v = v; by = no_shift }

-- no vertex is asked to move
abbrev pub no_shifts : Mesh → Shifts
no_shifts m = map still_at (finite.keys m.points)

-- what is asked of a vertex; something is asked of each that lives, if only to stay
abbrev pub asked_of : ℕ → Shifts → Option ShiftOf
asked_of v asked = find (λ s. s.v == v) asked

-- what was asked of a vertex, and nothing of one that is new or solid
abbrev pub still_asked : Mesh → Shifts → ℕ → ShiftOf
still_asked m asked v =
    if is_solid m v then still_at v else unwrap_or (asked_of v asked) (still_at v)

-- the same of each live vertex of a mesh that was changed
abbrev pub asked_in : Mesh → Shifts → Shifts
asked_in m asked = map (still_asked m asked) (finite.keys m.points)

-- where an engine begins: no mesh is saved
abbrev pub unsaved : Mesh → State
unsaved m =
    record { mesh = m; asked = no_shifts m; set = at_first; steps = 0; saved = 0; groups = [] }

-- where the directives begin: mesh 0 is saved
abbrev pub start : Mesh → State
start m =
    record { mesh = m; asked = no_shifts m; set = at_first; steps = 0; saved = 1; groups = [] }

-- whether a group is open
abbrev pub is_open : List Group → Bool
is_open [] = false
is_open (group ∷ outer) = true

-- ---- as they lie in memory

-- the kept mesh for which the mark stands; the empty one, where there is none
abbrev pub kept_for : List Mesh → Mark → Mesh
kept_for kept mark = unwrap_or (slice_get kept mark.place) (mesh_of [] [])

-- a group whose mesh is a kept one: of a vertex that it does not name nothing is asked
abbrev pub group_of : List Mesh → OpenGroup → Group
group_of kept group =
    let m = kept_for kept group.mark in
    record { mesh = m; asked = asked_in m group.asked; failed = group.failed }

-- the same of each, in order
abbrev pub groups_of : List Mesh → List OpenGroup → List Group
groups_of kept groups = map (group_of kept) groups

-- a run's state, by its mesh and the meshes that are kept for marks: of a vertex that it does not
-- name nothing is asked
abbrev pub state_of : Mesh → List Mesh → RunState → State
state_of m kept run = record {
  mesh = m;
  asked = asked_in m run.asked;
  set = run.set;
  steps = run.steps;
  saved = run.saved;
  groups = groups_of kept run.groups;
}

-- the replay of a log that led to the state
abbrev pub standing : State → Replay
standing s = at_mesh_in_groups s.mesh (map (λ group. group.mesh) s.groups)
