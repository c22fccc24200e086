use Rattle.std.proofs.Common.{◌≡◌, drop}
use Rattle.edit_check.specs.FacePairs.{some_touched_fail}
use Rattle.edit_check.proofs.face_pairs.some_touched_fail.Given as goal

-- one fails where one of those that are left does
abbrev pub invariant-loop-f : goal.invariant-loop-f
invariant-loop-f l =
    let n = l.near in
    some_touched_fail n.terms n.faces.now n.touched.now (drop l.f-index n.touched.now) ≡ some_touched_fail n.terms n.faces.now n.touched.now n.touched.now
