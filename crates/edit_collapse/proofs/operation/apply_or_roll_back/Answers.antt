use Rattle.std.proofs.Common.{sym, subst, ap, ◌∙◌}
use Rattle.std.specs.Prelude.{OnErr, Result, Ok, Err}
use Rattle.mesh_base.specs.Mesh.{Mesh}
use Rattle.mesh_base.specs.Sides.{IsClosed}
use Rattle.mesh_base.proofs.MarksHold.{begins_along, begins_after_return, kept_after_return, holds_along, stands_along, stands_for_one}
use Rattle.edit_collapse.specs.Tried.{MayBeTried, left_at}
use Rattle.edit_collapse.proofs.operation.apply_or_roll_back.Goals as goal

-- what holds holds at an error
on_err : {A E P : Type 0} (result : Result A E) → P → OnErr result P
on_err (Ok value) p = tt
on_err (Err fault) p = p

pub apply_collapse-done-requires-clause-closed : goal.apply_collapse-done-requires-clause-closed
apply_collapse-done-requires-clause-closed g c = subst IsClosed (sym c.in_ok-mark.ensures.mesh) c.requires.closed

pub apply_collapse-done-requires-clause-tried : goal.apply_collapse-done-requires-clause-tried
apply_collapse-done-requires-clause-tried g c = subst (λ (n : Mesh). MayBeTried n c.args.a c.args.b) (sym c.in_ok-mark.ensures.mesh) c.requires.tried

pub apply_collapse-done-requires-clause-left : goal.apply_collapse-done-requires-clause-left
apply_collapse-done-requires-clause-left g c = c.requires.left ∙ ap (λ (n : Mesh). left_at n c.args.a c.args.b) (sym c.in_ok-mark.ensures.mesh)

pub returns-then-is_err-clause-left : goal.returns-then-is_err-clause-left
returns-then-is_err-clause-left g c =
    let mesh = g.S.Surface.mesh in
    let kept = g.S.Surface.kept in
    let put = kept c.apply_collapse-done.new.mesh in
    on_err c.apply_collapse-done.result
    (stands_for_one put c.in_ok-mark.mark (mesh c.back_to.new.self) (mesh c.args.mesh.now) c.back_to.ensures.mesh
    (stands_along put (kept c.mark.new.self) c.in_ok-mark.mark (mesh c.args.mesh.now) c.apply_collapse-done.ensures.marks c.in_ok-mark.ensures.stands))

pub back_to-requires : goal.back_to-requires
back_to-requires g c =
    let kept = g.S.Surface.kept in
    holds_along g.S.Surface.beyond (kept c.apply_collapse-done.new.mesh) (kept c.mark.new.self) c.in_ok-mark.mark c.apply_collapse-done.ensures.marks c.in_ok-mark.ensures.holds

pub returns-then-is_err-clause-marks : goal.returns-then-is_err-clause-marks
returns-then-is_err-clause-marks g c =
    let kept = g.S.Surface.kept in
    let newest = kept c.apply_collapse-done.new.mesh in
    let old = kept c.args.mesh.now in
    begins_after_return (kept c.back_to.new.self) newest old c.in_ok-mark.mark.under c.in_ok-mark.ensures.under
    (begins_along newest (kept c.mark.new.self) old c.apply_collapse-done.ensures.marks c.mark.ensures.marks) c.back_to.ensures.marks

pub returns-then-is_err-clause-kept : goal.returns-then-is_err-clause-kept
returns-then-is_err-clause-kept g c =
    let kept = g.S.Surface.kept in
    let newest = kept c.apply_collapse-done.new.mesh in
    let old = kept c.args.mesh.now in
    on_err c.apply_collapse-done.result
    (kept_after_return (kept c.back_to.new.self) newest old c.in_ok-mark.mark g.S.Surface.beyond c.in_ok-mark.ensures.under c.in_ok-mark.ensures.place
    (begins_along newest (kept c.mark.new.self) old c.apply_collapse-done.ensures.marks c.mark.ensures.marks) c.back_to.ensures.kept)

pub returns-else-is_err-clause-marks : goal.returns-else-is_err-clause-marks
returns-else-is_err-clause-marks g c =
    let kept = g.S.Surface.kept in
    begins_along (kept c.apply_collapse-done.new.mesh) (kept c.mark.new.self) (kept c.args.mesh.now) c.apply_collapse-done.ensures.marks c.mark.ensures.marks
