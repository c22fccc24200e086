use Rattle.std.proofs.Common.{◌≡◌, drop}
use Rattle.edit_check.specs.FacePairs.{fails_with_some}
use Rattle.edit_check.proofs.face_pairs.fails_with_some.Given as goal

-- it fails with one where it does with one of those that are left
abbrev pub invariant-loop-g : goal.invariant-loop-g
invariant-loop-g l =
    let n = l.near in
    fails_with_some n.terms n.faces.now n.touched.now l.f.face (drop l.g-index n.faces.now) ≡ fails_with_some n.terms n.faces.now n.touched.now l.f.face n.faces.now
