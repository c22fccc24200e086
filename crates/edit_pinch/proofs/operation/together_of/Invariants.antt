use Rattle.std.proofs.Common.{◌≡◌, ◌++◌, drop, map}
use Rattle.edit_pinch.specs.Pinch.{vertex_and_copies}
use Rattle.edit_pinch.proofs.operation.together_of.Given as goal

-- those so far, and the copies that are left, are all
abbrev pub invariant-loop-copy : goal.invariant-loop-copy
invariant-loop-copy l = l.together ++ map (λ copy. copy.w) (drop l.copy-index l.copies) ≡ vertex_and_copies l.fn.v l.copies
