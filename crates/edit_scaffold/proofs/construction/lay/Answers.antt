use Rattle.std.proofs.Common.{sym, subst, ◌∙◌}
use Rattle.mesh_base.specs.Mesh.{Mesh}
use Rattle.mesh_base.specs.Sides.{IsClosed}
use Rattle.mesh_base.proofs.MarksHold.{begins_along, begins_after_return, kept_after_return, holds_along, stands_along, stands_for_one}
use Rattle.edit_any.specs.Dispatch.{scaffold_of}
use Rattle.edit_scaffold.specs.Made.{IsDone, IsTestedOn}
use Rattle.edit_scaffold.proofs.Fitting.{laid_ways_fit}
use Rattle.edit_scaffold.proofs.Lying.{has_one}
use Rattle.edit_scaffold.proofs.construction.lay.Goals as goal

pub put-requires-clause-closed : goal.put-requires-clause-closed
put-requires-clause-closed g c = subst IsClosed (sym c.in_ok-mark.ensures.mesh) c.requires.closed

pub put-requires-clause-done : goal.put-requires-clause-done
put-requires-clause-done g c = let P : Mesh → Type 0 = λ m. IsDone m c.args.change.now in subst P (sym c.in_ok-mark.ensures.mesh) c.requires.done

pub put-requires-clause-moves : goal.put-requires-clause-moves
put-requires-clause-moves g c =
    let m = g.S.Surface.mesh c.mark.new.self in
    has_one (scaffold_of m c.args.change.now) (sym c.if-moves_nothing.false ∙ c.moves_nothing.ensures m)

pub back_to-requires : goal.back_to-requires
back_to-requires g c =
    let kept = g.S.Surface.kept in
    holds_along g.S.Surface.beyond (kept c.put.new.mesh) (kept c.mark.new.self) c.in_ok-mark.mark c.put.ensures.marks c.in_ok-mark.ensures.holds

pub returns-in-Ok-clause-laid : goal.returns-in-Ok-clause-laid
returns-in-Ok-clause-laid g c =
    let P : Mesh → Type 0 = λ m. IsTestedOn (scaffold_of m c.args.change.now) (g.S.Surface.mesh c.put.new.mesh) c.in-Ok.motion.ways c.in-Ok.motion.claim in
    subst P c.in_ok-mark.ensures.mesh c.in-Ok.ensures.made

pub returns-in-Ok-clause-fits : goal.returns-in-Ok-clause-fits
returns-in-Ok-clause-fits g c =
    let m = g.S.Surface.mesh c.mark.new.self in
    let motion = c.in-Ok.motion in
    laid_ways_fit m (g.S.Surface.mesh c.put.new.mesh) c.args.change.now motion.ways motion.claim c.in-Ok.ensures.made

pub returns-in-Ok-clause-holds : goal.returns-in-Ok-clause-holds
returns-in-Ok-clause-holds g c =
    let kept = g.S.Surface.kept in
    holds_along g.S.Surface.beyond (kept c.put.new.mesh) (kept c.mark.new.self) c.in_ok-mark.mark c.put.ensures.marks c.in_ok-mark.ensures.holds

pub returns-in-Ok-clause-stands : goal.returns-in-Ok-clause-stands
returns-in-Ok-clause-stands g c =
    let kept = g.S.Surface.kept in
    stands_along (kept c.put.new.mesh) (kept c.mark.new.self) c.in_ok-mark.mark (g.S.Surface.mesh c.args.mesh.now) c.put.ensures.marks c.in_ok-mark.ensures.stands

pub returns-in-Ok-clause-marks : goal.returns-in-Ok-clause-marks
returns-in-Ok-clause-marks g c =
    let kept = g.S.Surface.kept in
    begins_along (kept c.put.new.mesh) (kept c.mark.new.self) (kept c.args.mesh.now) c.put.ensures.marks c.mark.ensures.marks

pub returns-in-Err-clause-err : goal.returns-in-Err-clause-err
returns-in-Err-clause-err g c =
    let mesh = g.S.Surface.mesh in
    let kept = g.S.Surface.kept in
    let newest = kept c.put.new.mesh in
    stands_for_one newest c.in_ok-mark.mark (mesh c.back_to.new.self) (mesh c.args.mesh.now) c.back_to.ensures.mesh
    (stands_along newest (kept c.mark.new.self) c.in_ok-mark.mark (mesh c.args.mesh.now) c.put.ensures.marks c.in_ok-mark.ensures.stands)

pub returns-in-Err-clause-marks : goal.returns-in-Err-clause-marks
returns-in-Err-clause-marks g c =
    let kept = g.S.Surface.kept in
    let newest = kept c.put.new.mesh in
    let old = kept c.args.mesh.now in
    begins_after_return (kept c.back_to.new.self) newest old c.in_ok-mark.mark.under c.in_ok-mark.ensures.under
    (begins_along newest (kept c.mark.new.self) old c.put.ensures.marks c.mark.ensures.marks) c.back_to.ensures.marks

pub returns-in-Err-clause-kept : goal.returns-in-Err-clause-kept
returns-in-Err-clause-kept g c =
    let kept = g.S.Surface.kept in
    let newest = kept c.put.new.mesh in
    let old = kept c.args.mesh.now in
    kept_after_return (kept c.back_to.new.self) newest old c.in_ok-mark.mark g.S.Surface.beyond c.in_ok-mark.ensures.under c.in_ok-mark.ensures.place
    (begins_along newest (kept c.mark.new.self) old c.put.ensures.marks c.mark.ensures.marks) c.back_to.ensures.kept
