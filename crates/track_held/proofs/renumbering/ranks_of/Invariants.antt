use Rattle.std.proofs.Common.{◌≡◌, ◌++◌, map, drop}
use Rattle.obj_text.specs.Written.{rank_among}
use Rattle.track_held.proofs.renumbering.ranks_of.Given as goal

-- the ranks so far and those to come are all
abbrev pub invariant-loop-v : goal.invariant-loop-v
invariant-loop-v l = l.ranks ++ map (rank_among l.ids) (drop l.v-index l.vertices) ≡ map (rank_among l.ids) l.vertices
