use Rattle.std.proofs.Common.{[], ◌∷◌}
use Rattle.edit_base.specs.declared.Move.{Move}
use Rattle.edit_split.proofs.SplitPremise.{split_may_be_checked}
use Rattle.edit_flip.proofs.flip_test.put_and_check.Goals as goal

pub check-requires-clause-clear : goal.check-requires-clause-clear
check-requires-clause-clear g c =
    let m = g.S.Surface.mesh c.args.mesh.now in
    let way : Move = record { v = c.next_vertex.result; start = c.exact_mid.result; end = c.exact_mid-2.result } in
    split_may_be_checked m (g.S.Surface.mesh c.apply_split.new.mesh) c.args.e.now c.split_point-at.result (way ∷ []) c.next_face-fresh_from.result (g.met.S.Surface.sound c.args.mesh.now) c.requires.clear c.in_ok-apply_split.ensures.made c.next_face-fresh_from.ensures
