use Rattle.std.proofs.Common.{◌≡◌, ◌++◌, map, drop}
use Rattle.track_held.specs.Reading.{named_point}
use Rattle.track_held.proofs.queries.points_by_id.Given as goal

-- the rows so far and those to come are all
abbrev pub invariant-loop-v : goal.invariant-loop-v
invariant-loop-v g l = l.rows ++ map (named_point (g.S.Surface.mesh l.mesh)) (drop l.v-index l.ids) ≡ map (named_point (g.S.Surface.mesh l.mesh)) l.ids
