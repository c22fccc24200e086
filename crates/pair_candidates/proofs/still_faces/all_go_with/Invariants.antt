use Rattle.pair_candidates.proofs.SlabTrees.{GoTo}
use Rattle.pair_candidates.proofs.still_faces.all_go_with.Given as goal

-- those so far go with the frame
abbrev pub invariant-loop-f : goal.invariant-loop-f
invariant-loop-f l = GoTo l.frame l.faces l.f-index
