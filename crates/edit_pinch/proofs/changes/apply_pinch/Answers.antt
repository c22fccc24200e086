use Rattle.std.proofs.Common.{◌≡◌, sym, subst}
use Rattle.std.specs.Prelude.{OnOk}
use Rattle.std.specs.List.{fold, zip}
use Rattle.mesh_base.specs.Mesh.{Mesh}
use Rattle.mesh_base.proofs.MarksHold.{begins_along}
use Rattle.edit_pinch.specs.Pinch.{copy_points, with_copy}
use Rattle.edit_pinch.specs.InTurn.{CopiedInTurn}
use Rattle.edit_pinch.proofs.changes.apply_pinch.Goals as goal

pub put_copies-requires-clause-turns : goal.put_copies-requires-clause-turns
put_copies-requires-clause-turns g c =
    subst (λ (n : Mesh). CopiedInTurn c.args.v n (zip c.args.fans.now (copy_points c.args.copies.now))) (sym c.in_ok-place.ensures.ok) c.requires.turns

pub returns-clause-made : goal.returns-clause-made
returns-clause-made g c =
    let placed = zip c.args.fans.now (copy_points c.args.copies.now) in
    subst (λ (n : Mesh). OnOk c.put_copies.result (g.S.Surface.mesh c.put_copies.new.mesh ≡ fold (with_copy c.args.v) n placed)) c.in_ok-place.ensures.ok c.put_copies.ensures.made

pub returns-clause-marks : goal.returns-clause-marks
returns-clause-marks g c =
    let kept = g.S.Surface.kept in
    begins_along (kept c.put_copies.new.mesh) (kept c.place.new.self) (kept c.args.mesh.now) c.put_copies.ensures.marks c.place.ensures.marks
