use Rattle.std.proofs.Common.{drop, sym, ap, subst, ◌∙◌}
use Rattle.grid_decided.specs.Decided.{meets_exactly}
use Rattle.mesh_base.specs.Mesh.{Mesh}
use Rattle.mesh_base.specs.Sides.{IsClosed}
use Rattle.mesh_base.specs.Placements.{IsClearMesh}
use Rattle.mesh_base.proofs.MarksHold.{begins_along, begins_after_return, kept_after_return, holds_along, stands_along, stands_for_one}
use Rattle.edit_pinch.specs.Pinch.{fans, first_point, later_copies, pinch_scaffold}
use Rattle.edit_base.specs.Scaffold.{first_failing}
use Rattle.edit_pinch.specs.Tried.{MayBeTried}
use Rattle.edit_pinch.proofs.operation.apply_or_roll_back.Goals as goal

pub put_and_check-requires-clause-closed : goal.put_and_check-requires-clause-closed
put_and_check-requires-clause-closed g c = subst IsClosed (sym c.in_ok-mark.ensures.mesh) c.requires.closed

pub put_and_check-requires-clause-clear : goal.put_and_check-requires-clause-clear
put_and_check-requires-clause-clear g c = subst IsClearMesh (sym c.in_ok-mark.ensures.mesh) c.requires.clear

pub put_and_check-requires-clause-tried : goal.put_and_check-requires-clause-tried
put_and_check-requires-clause-tried g c = subst (λ (n : Mesh). MayBeTried n c.args.v) (sym c.in_ok-mark.ensures.mesh) c.requires.tried

pub put_and_check-requires-clause-others : goal.put_and_check-requires-clause-others
put_and_check-requires-clause-others g c = c.requires.others ∙ ap (λ (n : Mesh). drop 1 (fans n c.args.v)) (sym c.in_ok-mark.ensures.mesh)

pub put_and_check-requires-clause-point : goal.put_and_check-requires-clause-point
put_and_check-requires-clause-point g c = c.requires.point ∙ ap (λ (n : Mesh). first_point n c.args.v) (sym c.in_ok-mark.ensures.mesh)

pub put_and_check-requires-clause-copies : goal.put_and_check-requires-clause-copies
put_and_check-requires-clause-copies g c = c.requires.copies ∙ ap (λ (n : Mesh). later_copies n c.args.v) (sym c.in_ok-mark.ensures.mesh)

pub back_to-requires : goal.back_to-requires
back_to-requires g c =
    let kept = g.S.Surface.kept in
    holds_along g.S.Surface.beyond (kept c.put_and_check.new.mesh) (kept c.mark.new.self) c.in_ok-mark.mark c.put_and_check.ensures.marks c.in_ok-mark.ensures.holds

pub back_to-requires-in-Err : goal.back_to-requires-in-Err
back_to-requires-in-Err g c =
    let kept = g.S.Surface.kept in
    holds_along g.S.Surface.beyond (kept c.put_and_check.new.mesh) (kept c.mark.new.self) c.in_ok-mark.mark c.put_and_check.ensures.marks c.in_ok-mark.ensures.holds

pub returns-in-Ok-None-clause-first : goal.returns-in-Ok-None-clause-first
returns-in-Ok-None-clause-first g c =
    sym c.in-Ok-None.field-0-is ∙ c.in-Ok-None.ensures.first ∙ ap (λ (n : Mesh). first_failing meets_exactly (pinch_scaffold n c.args.v) c.args.depth) c.in_ok-mark.ensures.mesh

pub returns-in-Ok-None-clause-mesh : goal.returns-in-Ok-None-clause-mesh
returns-in-Ok-None-clause-mesh g c = c.in-Ok-None.ensures.made ∙ ap (λ (n : Mesh). (pinch_scaffold n c.args.v).mesh) c.in_ok-mark.ensures.mesh

pub returns-in-Ok-None-clause-marks : goal.returns-in-Ok-None-clause-marks
returns-in-Ok-None-clause-marks g c =
    let kept = g.S.Surface.kept in
    begins_along (kept c.put_and_check.new.mesh) (kept c.mark.new.self) (kept c.args.mesh.now) c.put_and_check.ensures.marks c.mark.ensures.marks

pub returns-in-Ok-Some-clause-first : goal.returns-in-Ok-Some-clause-first
returns-in-Ok-Some-clause-first g c =
    sym c.in-Ok-Some.field-0-is ∙ c.in-Ok-Some.ensures.first ∙ ap (λ (n : Mesh). first_failing meets_exactly (pinch_scaffold n c.args.v) c.args.depth) c.in_ok-mark.ensures.mesh

pub returns-in-Ok-Some-clause-mesh : goal.returns-in-Ok-Some-clause-mesh
returns-in-Ok-Some-clause-mesh g c =
    let mesh = g.S.Surface.mesh in
    let kept = g.S.Surface.kept in
    let newest = kept c.put_and_check.new.mesh in
    stands_for_one newest c.in_ok-mark.mark (mesh c.back_to.new.self) (mesh c.args.mesh.now) c.back_to.ensures.mesh
    (stands_along newest (kept c.mark.new.self) c.in_ok-mark.mark (mesh c.args.mesh.now) c.put_and_check.ensures.marks c.in_ok-mark.ensures.stands)

pub returns-in-Ok-Some-clause-marks : goal.returns-in-Ok-Some-clause-marks
returns-in-Ok-Some-clause-marks g c =
    let kept = g.S.Surface.kept in
    let newest = kept c.put_and_check.new.mesh in
    let old = kept c.args.mesh.now in
    begins_after_return (kept c.back_to.new.self) newest old c.in_ok-mark.mark.under c.in_ok-mark.ensures.under
    (begins_along newest (kept c.mark.new.self) old c.put_and_check.ensures.marks c.mark.ensures.marks) c.back_to.ensures.marks

pub returns-in-Ok-Some-clause-kept : goal.returns-in-Ok-Some-clause-kept
returns-in-Ok-Some-clause-kept g c =
    let kept = g.S.Surface.kept in
    let newest = kept c.put_and_check.new.mesh in
    let old = kept c.args.mesh.now in
    kept_after_return (kept c.back_to.new.self) newest old c.in_ok-mark.mark g.S.Surface.beyond c.in_ok-mark.ensures.under c.in_ok-mark.ensures.place
    (begins_along newest (kept c.mark.new.self) old c.put_and_check.ensures.marks c.mark.ensures.marks) c.back_to.ensures.kept

pub returns-in-Err-clause-mesh : goal.returns-in-Err-clause-mesh
returns-in-Err-clause-mesh g c =
    let mesh = g.S.Surface.mesh in
    let kept = g.S.Surface.kept in
    let newest = kept c.put_and_check.new.mesh in
    stands_for_one newest c.in_ok-mark.mark (mesh c.back_to-in-Err.new.self) (mesh c.args.mesh.now) c.back_to-in-Err.ensures.mesh
    (stands_along newest (kept c.mark.new.self) c.in_ok-mark.mark (mesh c.args.mesh.now) c.put_and_check.ensures.marks c.in_ok-mark.ensures.stands)

pub returns-in-Err-clause-marks : goal.returns-in-Err-clause-marks
returns-in-Err-clause-marks g c =
    let kept = g.S.Surface.kept in
    let newest = kept c.put_and_check.new.mesh in
    let old = kept c.args.mesh.now in
    begins_after_return (kept c.back_to-in-Err.new.self) newest old c.in_ok-mark.mark.under c.in_ok-mark.ensures.under
    (begins_along newest (kept c.mark.new.self) old c.put_and_check.ensures.marks c.mark.ensures.marks) c.back_to-in-Err.ensures.marks

pub returns-in-Err-clause-kept : goal.returns-in-Err-clause-kept
returns-in-Err-clause-kept g c =
    let kept = g.S.Surface.kept in
    let newest = kept c.put_and_check.new.mesh in
    let old = kept c.args.mesh.now in
    kept_after_return (kept c.back_to-in-Err.new.self) newest old c.in_ok-mark.mark g.S.Surface.beyond c.in_ok-mark.ensures.under c.in_ok-mark.ensures.place
    (begins_along newest (kept c.mark.new.self) old c.put_and_check.ensures.marks c.mark.ensures.marks) c.back_to-in-Err.ensures.kept
