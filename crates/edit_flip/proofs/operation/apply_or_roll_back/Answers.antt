use Rattle.std.proofs.Common.{◌≡◌, sym, subst}
use Rattle.std.specs.Prelude.{OnOk, OnErr, Result, Ok, Err}
use Rattle.mesh_base.proofs.MarksHold.{begins_along, begins_after_return, kept_after_return, holds_along, stands_along, stands_for_one}
use Rattle.edit_flip.specs.Flip.{flip_mesh}
use Rattle.edit_flip.specs.Tried.{MayBeTried}
use Rattle.mesh_base.specs.Sides.{IsClosed}
use Rattle.edit_flip.proofs.operation.apply_or_roll_back.Goals as goal

-- what holds holds at an error
on_err : {A E P : Type 0} (result : Result A E) → P → OnErr result P
on_err (Ok value) p = tt
on_err (Err fault) p = p

pub apply_flip-done-requires-clause-tried : goal.apply_flip-done-requires-clause-tried
apply_flip-done-requires-clause-tried g c = subst (λ n. MayBeTried n c.args.e.now) (sym c.in_ok-mark.ensures.mesh) c.requires.tried

pub returns-then-is_err-clause-left : goal.returns-then-is_err-clause-left
returns-then-is_err-clause-left g c =
    let mesh = g.S.Surface.mesh in
    let kept = g.S.Surface.kept in
    let put = kept c.apply_flip-done.new.mesh in
    on_err c.apply_flip-done.result
    (stands_for_one put c.in_ok-mark.mark (mesh c.back_to.new.self) (mesh c.args.mesh.now) c.back_to.ensures.mesh
    (stands_along put (kept c.mark.new.self) c.in_ok-mark.mark (mesh c.args.mesh.now) c.apply_flip-done.ensures.marks c.in_ok-mark.ensures.stands))

pub apply_flip-done-requires-clause-closed : goal.apply_flip-done-requires-clause-closed
apply_flip-done-requires-clause-closed g c = subst IsClosed (sym c.in_ok-mark.ensures.mesh) c.requires.closed

pub back_to-requires : goal.back_to-requires
back_to-requires g c =
    let kept = g.S.Surface.kept in
    holds_along g.S.Surface.beyond (kept c.apply_flip-done.new.mesh) (kept c.mark.new.self) c.in_ok-mark.mark c.apply_flip-done.ensures.marks c.in_ok-mark.ensures.holds

pub returns-then-is_err-clause-marks : goal.returns-then-is_err-clause-marks
returns-then-is_err-clause-marks g c =
    let kept = g.S.Surface.kept in
    let put = kept c.apply_flip-done.new.mesh in
    let old = kept c.args.mesh.now in
    begins_after_return (kept c.back_to.new.self) put old c.in_ok-mark.mark.under c.in_ok-mark.ensures.under
    (begins_along put (kept c.mark.new.self) old c.apply_flip-done.ensures.marks c.in_ok-mark.ensures.marks) c.back_to.ensures.marks

pub returns-then-is_err-clause-kept : goal.returns-then-is_err-clause-kept
returns-then-is_err-clause-kept g c =
    let kept = g.S.Surface.kept in
    let put = kept c.apply_flip-done.new.mesh in
    let old = kept c.args.mesh.now in
    on_err c.apply_flip-done.result
    (kept_after_return (kept c.back_to.new.self) put old c.in_ok-mark.mark g.S.Surface.beyond c.in_ok-mark.ensures.under c.in_ok-mark.ensures.place
    (begins_along put (kept c.mark.new.self) old c.apply_flip-done.ensures.marks c.in_ok-mark.ensures.marks) c.back_to.ensures.kept)

pub returns-else-is_err-clause-made : goal.returns-else-is_err-clause-made
returns-else-is_err-clause-made g c =
    subst (λ n. OnOk c.apply_flip-done.result (g.S.Surface.mesh c.apply_flip-done.new.mesh ≡ flip_mesh n c.args.e.now)) c.in_ok-mark.ensures.mesh c.apply_flip-done.ensures.made

pub returns-else-is_err-clause-marks : goal.returns-else-is_err-clause-marks
returns-else-is_err-clause-marks g c =
    let kept = g.S.Surface.kept in
    begins_along (kept c.apply_flip-done.new.mesh) (kept c.mark.new.self) (kept c.args.mesh.now) c.apply_flip-done.ensures.marks c.in_ok-mark.ensures.marks
