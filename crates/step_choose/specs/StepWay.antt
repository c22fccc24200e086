-- The way that a search tells.
use Rattle.step_choose.specs.declared.way.StepWay.{StepWay}
use Rattle.step_choose.specs.Choice.{Way}

-- how a search takes the step
abbrev pub way_by : StepWay → Way
way_by f = record { how = f.how; taken = f.taken; blocks = f.blocks }
