use Rattle.std.proofs.Common.{◌≡◌, take}
use Rattle.obj_text.specs.Written.{faces_by_rank}
use Rattle.obj_text.proofs.ranking.ranked_faces.Given as goal

abbrev pub invariant-loop-f : goal.invariant-loop-f
invariant-loop-f g l = l.ranked ≡ take l.f-index (faces_by_rank (g.S.Surface.mesh l.mesh))
