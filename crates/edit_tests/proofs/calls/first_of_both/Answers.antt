use Rattle.std.proofs.Common.{[], sym, subst}
use Rattle.edit_check.specs.Untouched.{IsClearWhereUntouched}
use Rattle.edit_check.proofs.Premise.{agreeing_is}
use Rattle.edit_tests.proofs.calls.first_of_both.Goals as goal

pub check_still-requires : goal.check_still-requires
check_still-requires g c =
    let old = g.S.Surface.mesh c.args.mesh.now in
    let new = g.S.Surface.mesh c.put_faces.new.mesh in
    subst (λ k. IsClearWhereUntouched new [] k) (sym c.next_face-fresh_from.ensures)
    (agreeing_is old new [] (g.met.S.Surface.sound c.args.mesh.now) c.requires c.in_ok-put_faces.ensures)
