-- A state that goes by other settings.
use Rattle.step_choose.specs.declared.Settings.{Settings}
use Rattle.track_engine.specs.State.{State}

-- the same state, with these settings
abbrev pub with_settings : Settings → State → State
with_settings set s = record s { set = set }
