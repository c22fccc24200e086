-- The ways that a choice and a search tell.
use Rattle.std.specs.Prelude.{◌≡◌}
use Rattle.grid_decided.specs.Decided.{meets_exactly}
use Rattle.mesh_base.specs.Mesh.{Mesh}
use Rattle.mesh_base.specs.Shifts.{Shifts}
use Rattle.pair_scan.specs.Answers.{AreAllFailing}
use Rattle.step_choose.specs.declared.choice.Choice.{Choice}
use Rattle.step_choose.specs.declared.settings.Settings.{Settings}
use Rattle.step_choose.specs.Choice.{Way, way_taken, IsFirstWay}

-- how a choice takes the step
abbrev pub way_of : Choice → Way
way_of c = record { how = c.how; taken = c.taken; blocks = c.blocks }

-- it has all pairs that do not pass by the asked shifts, in order
abbrev pub HasHits : Mesh → Shifts → Settings → Choice → Type 0
HasHits m asked set c = AreAllFailing m asked set.depth c.hits

-- it takes the step in the way that the plain search takes
abbrev pub IsWayTaken : Mesh → Shifts → Settings → Choice → Type 0
IsWayTaken m asked set c = way_of c ≡ way_taken meets_exactly m asked set

-- it takes the step by the first way that applies
abbrev pub TakesFirstWay : Mesh → Shifts → Settings → Choice → Type 0
TakesFirstWay m asked set c = IsFirstWay meets_exactly m asked set c.how c.taken
