use Rattle.std.proofs.Common.{◌≡◌, ◌++◌, drop}
use Rattle.edit_check.specs.Boxed.{faces_in}
use Rattle.edit_check.specs.Nearby.{faces_among}
use Rattle.edit_check.proofs.nearby.faces_along.Given as goal

-- the faces so far, and those that are left, are all
abbrev pub invariant-loop-f : goal.invariant-loop-f
invariant-loop-f g l =
    let m = g.S.Surface.mesh l.paths.mesh.now in
    faces_in l.faces.items ++ faces_among m l.paths.moves.now (drop l.f-index l.ids) ≡ faces_among m l.paths.moves.now l.ids
