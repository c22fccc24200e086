-- The numbers by which calls tell a caller in C how they went.
use Rattle.std.specs.Prelude.{ℕ, ◌==◌, List}
use Rattle.mesh_base.specs.declared.How.{How}
use Rattle.mesh_base.specs.declared.How.TheVariants.{Whole, Impulse, Zones, Halved, Zero}
use Rattle.mesh_sizing.specs.declared.sizing.Band.{Band}
use Rattle.pass_run.specs.declared.passes.PassCount.{PassCount}
use Rattle.step_choose.specs.declared.Settings.{Settings}
use Rattle.track_engine.specs.State.{Group}
use Rattle.track_engine.specs.declared.told.StepTold.{StepTold}
use Rattle.track_held.specs.declared.group_end.Closing.{Closing}
use Rattle.track_held.specs.declared.group_end.Closing.TheVariants.{NoGroup, Kept, TakenBack}
use Rattle.track_held.specs.Closings.{closing}
use Rattle.topo_library.specs.declared.results.TopoWay.{TopoWay}
use Rattle.topo_library.specs.declared.results.TopoEdits.{TopoEdits}

-- a way, with the number of pairs
abbrev pub way_at : ℕ → ℕ → ℕ → TopoWay
way_at how times hits = record { how = how; times = times; hits = hits }

-- the way by how a step is taken: 0 whole, 1 after so many impulse passes, 2 by so many rounds of
-- zones, 3 halved so many times, 4 not at all
abbrev pub way_by : How → ℕ → TopoWay
way_by Whole hits = way_at 0 0 hits
way_by (Impulse passes) hits = way_at 1 passes hits
way_by (Zones rounds) hits = way_at 2 rounds hits
way_by (Halved times) hits = way_at 3 times hits
way_by Zero hits = way_at 4 0 hits

-- what a step tells
abbrev pub way_told : StepTold → TopoWay
way_told told = way_by told.how told.hits

-- what a pass tells
abbrev pub edits_told : PassCount → TopoEdits
edits_told count = record { done = count.done; refused = count.refused }

-- what becomes of a group: 0 none is open, 1 it is kept, 2 it is taken back
abbrev pub closing_number : Closing → ℕ
closing_number NoGroup = 0
closing_number Kept = 1
closing_number TakenBack = 2

-- the same of the innermost of these groups
abbrev pub closing_of : List Group → ℕ
closing_of groups = closing_number (closing groups)

-- what becomes of a group that is taken back by choice, whatever would become of it
abbrev pub undone_number : Closing → ℕ
undone_number NoGroup = 0
undone_number Kept = 2
undone_number TakenBack = 2

-- the same of the innermost of these groups
abbrev pub undone_of : List Group → ℕ
undone_of groups = undone_number (closing groups)

-- settings by their numbers; zones are on at 1
abbrev pub settings_at : ℕ → ℕ → ℕ → ℕ → Settings
settings_at depth passes zones halvings =
    record { depth = depth; passes = passes; zones = zones == 1; halvings = halvings }

-- the band from one length to another
abbrev pub band_of : ℕ → ℕ → Band
band_of low high = record { low = low; high = high }
