use Rattle.std.proofs.Common.{length}
use Rattle.track_engine.specs.Targets.{target_of}
use Rattle.track_replay.proofs.SoFar.{Replaying}
use Rattle.track_replay.proofs.command.replay_each.Given as goal

-- the meshes of the lines so far are stored
abbrev pub invariant-loop-line : goal.invariant-loop-line
invariant-loop-line g l =
    Replaying l.only (target_of l.to) l.fn.run.replay.mesh l.fn.lines l.lines l.run l.count l.number (g.O.Outside.around l.fn.outside) (g.O.Outside.around l.outside)

abbrev pub decreases-loop-line : goal.decreases-loop-line
decreases-loop-line g l = length l.lines
