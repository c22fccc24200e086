-- How steps are tested, and what is tried.
use Rattle.std.specs.Prelude.{◌≤◌, true}
use Rattle.grid_base.specs.declared.TheConstants.{DEPTH_MAX, HALVINGS_MAX}
use Rattle.step_choose.specs.declared.TheConstants.{PASSES_MAX}
use Rattle.step_choose.specs.declared.settings.Settings.{Settings}

-- the settings of a run until its steps set others
abbrev pub at_first : Settings
at_first = record { depth = 6; passes = 3; zones = true; halvings = 6 }

-- within the limits
pub record AreWithinLimits (set : Settings) : Type 0 where
  pub depth : set.depth ≤ DEPTH_MAX
  pub passes : set.passes ≤ PASSES_MAX
  pub halvings : set.halvings ≤ HALVINGS_MAX
