use Rattle.std.proofs.Common.{◌≤◌, []}
use Rattle.edit_check.specs.Agreeing.{AgreesWhereOld}
use Rattle.edit_tests.proofs.calls.put_faces.Given as goal

-- the mesh agrees with the one before, and no id is given again
abbrev pub invariant-loop-c : goal.invariant-loop-c
invariant-loop-c g l =
    let old = g.S.Surface.mesh l.fn.mesh in
    let new = g.S.Surface.mesh l.mesh in
    AgreesWhereOld old new [] × old.next_face ≤ new.next_face
