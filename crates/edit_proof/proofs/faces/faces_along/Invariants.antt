use Rattle.std.proofs.Common.{◌≡◌, ◌++◌, drop}
use Rattle.edit_check.specs.Nearby.{faces_among}
use Rattle.edit_proof.proofs.faces.faces_along.Given as goal

-- the faces so far, and those that are left, are all
abbrev pub invariant-loop-f : goal.invariant-loop-f
invariant-loop-f g l =
    let m = g.S.Surface.mesh l.going.mesh.now in
    l.faces ++ faces_among m l.going.moves.now (drop l.f-index l.ids) ≡ faces_among m l.going.moves.now l.ids
