use Rattle.std.proofs.Common.{◌≡◌, [], ◌∷◌, subst}
use Rattle.std.specs.Prelude.{IfOk}
use Rattle.grid_decided.specs.Decided.{meets_exactly}
use Rattle.edit_base.specs.Scaffold.{Scaffold, first_failing}
use Rattle.edit_check.proofs.Premise.{clear_mesh_is}
use Rattle.edit_collapse.proofs.Answered.{is_scaffold}
use Rattle.edit_collapse.proofs.operation.first_hit.Goals as goal

pub check-requires-clause-clear : goal.check-requires-clause-clear
check-requires-clause-clear g c =
    clear_mesh_is (g.S.Surface.mesh c.args.mesh.now) (c.move_to-first.result ∷ c.move_to-second.result ∷ []) c.next_face.result c.requires.clear

pub returns : goal.returns
returns g c =
    subst (λ (s : Scaffold). IfOk c.check.result (λ found. found ≡ first_failing meets_exactly s c.args.depth))
    (is_scaffold (g.S.Surface.mesh c.args.mesh.now) c.args.a c.args.b c.args.at c.move_to-first.result c.move_to-second.result c.doubled-end.result c.move_to-first.ensures.value c.move_to-second.ensures.value c.doubled-end.ensures.value)
    c.check.ensures.first
