use Rattle.std.proofs.Common.{◌≡◌, ◌++◌, drop, map}
use Rattle.edit_pinch.specs.Pinch.{move_to, moves_from}
use Rattle.edit_pinch.proofs.operation.moves_of.Given as goal

-- the ways so far, and those of the copies that are left, are all
abbrev pub invariant-loop-copy : goal.invariant-loop-copy
invariant-loop-copy l = l.moves ++ map (λ copy. move_to l.here copy.w copy.at) (drop l.copy-index l.copies) ≡ moves_from l.here l.fn.v l.fn.at l.copies
