use Rattle.std.proofs.Common.{drop}
use Rattle.track_engine.specs.Effects.{block_lines}
use Rattle.log_write.proofs.SaidLines.{SaysSoFar}
use Rattle.track_engine.proofs.step_lines.say_blocks.Given as goal

-- some lines are told, and with those to come they are all
abbrev pub invariant-loop-block : goal.invariant-loop-block
invariant-loop-block g l = SaysSoFar (g.O.Outside.around l.fn.outside) (g.O.Outside.around l.outside) (block_lines (drop l.block-index l.blocks)) (block_lines l.blocks)
