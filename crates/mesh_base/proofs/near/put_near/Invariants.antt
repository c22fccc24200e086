use Rattle.std.proofs.Common.{◌≡◌, ◌++◌, length}
use Rattle.std.specs.List.{filter}
use Rattle.std.specs.FinMap as map
use Rattle.mesh_base.specs.Near.{is_face_near, faces_near}
use Rattle.mesh_base.specs.Sides.{above}
use Rattle.mesh_base.proofs.near.put_near.Given as goal

-- the near faces found and those above the last are all of them
abbrev pub invariant-loop-f : goal.invariant-loop-f
invariant-loop-f g l = let m = g.T.FaceTable.mesh l.table in l.into.items ++ filter (λ f. is_face_near m l.at f) (above l.last (map.keys m.faces)) ≡ faces_near m l.at

-- those above the last become fewer
abbrev pub decreases-loop-f : goal.decreases-loop-f
decreases-loop-f g l = length (above l.last (map.keys (g.T.FaceTable.mesh l.table).faces))
