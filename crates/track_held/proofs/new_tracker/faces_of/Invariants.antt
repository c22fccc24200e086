use Rattle.std.proofs.Common.{◌≡◌, ◌++◌, map, drop}
use Rattle.track_held.specs.Given.{face_in}
use Rattle.track_held.proofs.new_tracker.faces_of.Given as goal

-- the faces so far and those to come are all
abbrev pub invariant-loop-f : goal.invariant-loop-f
invariant-loop-f l = l.faces ++ map face_in (drop l.f-index l.given) ≡ map face_in l.given
