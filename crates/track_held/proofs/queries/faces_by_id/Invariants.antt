use Rattle.std.proofs.Common.{◌≡◌, ◌++◌, map, drop}
use Rattle.track_held.specs.Reading.{named_face}
use Rattle.track_held.proofs.queries.faces_by_id.Given as goal

-- the rows so far and those to come are all
abbrev pub invariant-loop-f : goal.invariant-loop-f
invariant-loop-f g l = l.rows ++ map (named_face (g.S.Surface.mesh l.mesh)) (drop l.f-index l.ids) ≡ map (named_face (g.S.Surface.mesh l.mesh)) l.ids
