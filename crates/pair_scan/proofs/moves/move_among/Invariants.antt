use Rattle.std.proofs.Common.{◌≡◌, drop}
use Rattle.edit_base.specs.Scaffold.{move_of}
use Rattle.pair_scan.proofs.moves.move_among.Given as goal

-- the move is among those that are left
abbrev pub invariant-loop-m : goal.invariant-loop-m
invariant-loop-m l = move_of (drop l.m-index l.moves) l.v ≡ move_of l.moves l.v
