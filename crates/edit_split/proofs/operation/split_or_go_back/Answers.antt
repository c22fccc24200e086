use Rattle.std.proofs.Common.{◌≡◌, Option, Some, None, sym, ap, subst, ◌∙◌}
use Rattle.grid_decided.specs.Decided.{meets_exactly}
use Rattle.mesh_base.specs.declared.ids.PairName.{PairName}
use Rattle.mesh_base.specs.Sides.{IsClosed}
use Rattle.mesh_base.specs.Placements.{IsClearMesh}
use Rattle.mesh_base.proofs.MarksHold.{begins_along, begins_after_return, kept_after_return, holds_along, stands_along, stands_for_one}
use Rattle.edit_base.specs.declared.answers.Change.TheVariants.{Split}
use Rattle.edit_base.specs.declared.answers.Edit.TheVariants.{Done}
use Rattle.edit_base.specs.Scaffold.{first_failing}
use Rattle.edit_split.specs.Split.{split_point, split_scaffold}
use Rattle.edit_split.specs.Tried.{MayBeTried}
use Rattle.edit_split.proofs.Answered.{tried_answer}
use Rattle.edit_split.proofs.operation.split_or_go_back.Goals as goal

pub put_and_check-requires-clause-closed : goal.put_and_check-requires-clause-closed
put_and_check-requires-clause-closed g c = subst IsClosed (sym c.mark.ensures.mesh) c.requires.closed

pub put_and_check-requires-clause-clear : goal.put_and_check-requires-clause-clear
put_and_check-requires-clause-clear g c = subst IsClearMesh (sym c.mark.ensures.mesh) c.requires.clear

pub put_and_check-requires-clause-tried : goal.put_and_check-requires-clause-tried
put_and_check-requires-clause-tried g c = subst (λ m. MayBeTried m c.args.e.now) (sym c.mark.ensures.mesh) c.requires.tried

pub put_and_check-requires-clause-point : goal.put_and_check-requires-clause-point
put_and_check-requires-clause-point g c = c.split_point-at.ensures ∙ ap (λ m. split_point m c.args.e.now) (sym c.mark.ensures.mesh)

pub back_to-requires : goal.back_to-requires
back_to-requires g c = holds_along g.S.Surface.beyond (g.S.Surface.kept c.put_and_check.new.mesh) (g.S.Surface.kept c.mark.new.self) c.in_ok-mark.mark c.put_and_check.ensures.marks c.in_ok-mark.ensures.holds

pub back_to-requires-in-Err : goal.back_to-requires-in-Err
back_to-requires-in-Err g c = holds_along g.S.Surface.beyond (g.S.Surface.kept c.put_and_check.new.mesh) (g.S.Surface.kept c.mark.new.self) c.in_ok-mark.mark c.put_and_check.ensures.marks c.in_ok-mark.ensures.holds

pub returns-in-Ok-None-clause-answer : goal.returns-in-Ok-None-clause-answer
returns-in-Ok-None-clause-answer g c =
    let m = g.S.Surface.mesh c.args.mesh.now in
    let s = c.args.e.now in
    let none : None ≡ first_failing meets_exactly (split_scaffold m s) c.args.depth =
    sym c.in-Ok-None.field-0-is ∙ c.in-Ok-None.ensures.first ∙ ap (λ n. first_failing meets_exactly (split_scaffold n s) c.args.depth) c.mark.ensures.mesh in
    (λ i. Done (Split (c.e.view_is i).a (c.e.view_is i).b (c.next_vertex.ensures i) (c.split_point-at.ensures i)))
    ∙ tried_answer m s c.args.depth None c.requires.tried none

pub returns-in-Ok-None-clause-marks : goal.returns-in-Ok-None-clause-marks
returns-in-Ok-None-clause-marks g c =
    let kept = g.S.Surface.kept in
    begins_along (kept c.put_and_check.new.mesh) (kept c.mark.new.self) (kept c.args.mesh.now) c.put_and_check.ensures.marks c.mark.ensures.marks

pub returns-in-Ok-Some-clause-answer : goal.returns-in-Ok-Some-clause-answer
returns-in-Ok-Some-clause-answer g c =
    let m = g.S.Surface.mesh c.args.mesh.now in
    let s = c.args.e.now in
    let found : Option PairName = Some c.in-Ok-Some.p in
    let some : found ≡ first_failing meets_exactly (split_scaffold m s) c.args.depth =
    sym c.in-Ok-Some.field-0-is ∙ c.in-Ok-Some.ensures.first ∙ ap (λ n. first_failing meets_exactly (split_scaffold n s) c.args.depth) c.mark.ensures.mesh in
    tried_answer m s c.args.depth found c.requires.tried some

pub returns-in-Ok-Some-clause-mesh : goal.returns-in-Ok-Some-clause-mesh
returns-in-Ok-Some-clause-mesh g c =
    let mesh = g.S.Surface.mesh in
    let kept = g.S.Surface.kept in
    let newest = kept c.put_and_check.new.mesh in
    stands_for_one newest c.in_ok-mark.mark (mesh c.back_to.new.self) (mesh c.args.mesh.now) c.back_to.ensures.mesh
    (stands_along newest (kept c.mark.new.self) c.in_ok-mark.mark (mesh c.args.mesh.now) c.put_and_check.ensures.marks c.in_ok-mark.ensures.stands)

pub returns-in-Ok-Some-clause-marks : goal.returns-in-Ok-Some-clause-marks
returns-in-Ok-Some-clause-marks g c =
    let kept = g.S.Surface.kept in
    let newest = kept c.put_and_check.new.mesh in
    let old = kept c.args.mesh.now in
    begins_after_return (kept c.back_to.new.self) newest old c.in_ok-mark.mark.under c.in_ok-mark.ensures.under
    (begins_along newest (kept c.mark.new.self) old c.put_and_check.ensures.marks c.mark.ensures.marks) c.back_to.ensures.marks

pub returns-in-Ok-Some-clause-kept : goal.returns-in-Ok-Some-clause-kept
returns-in-Ok-Some-clause-kept g c =
    let kept = g.S.Surface.kept in
    let newest = kept c.put_and_check.new.mesh in
    let old = kept c.args.mesh.now in
    kept_after_return (kept c.back_to.new.self) newest old c.in_ok-mark.mark g.S.Surface.beyond c.in_ok-mark.ensures.under c.in_ok-mark.ensures.place
    (begins_along newest (kept c.mark.new.self) old c.put_and_check.ensures.marks c.mark.ensures.marks) c.back_to.ensures.kept

pub returns-in-Err-clause-mesh : goal.returns-in-Err-clause-mesh
returns-in-Err-clause-mesh g c =
    let mesh = g.S.Surface.mesh in
    let kept = g.S.Surface.kept in
    let newest = kept c.put_and_check.new.mesh in
    stands_for_one newest c.in_ok-mark.mark (mesh c.back_to-in-Err.new.self) (mesh c.args.mesh.now) c.back_to-in-Err.ensures.mesh
    (stands_along newest (kept c.mark.new.self) c.in_ok-mark.mark (mesh c.args.mesh.now) c.put_and_check.ensures.marks c.in_ok-mark.ensures.stands)

pub returns-in-Err-clause-marks : goal.returns-in-Err-clause-marks
returns-in-Err-clause-marks g c =
    let kept = g.S.Surface.kept in
    let newest = kept c.put_and_check.new.mesh in
    let old = kept c.args.mesh.now in
    begins_after_return (kept c.back_to-in-Err.new.self) newest old c.in_ok-mark.mark.under c.in_ok-mark.ensures.under
    (begins_along newest (kept c.mark.new.self) old c.put_and_check.ensures.marks c.mark.ensures.marks) c.back_to-in-Err.ensures.marks

pub returns-in-Err-clause-kept : goal.returns-in-Err-clause-kept
returns-in-Err-clause-kept g c =
    let kept = g.S.Surface.kept in
    let newest = kept c.put_and_check.new.mesh in
    let old = kept c.args.mesh.now in
    kept_after_return (kept c.back_to-in-Err.new.self) newest old c.in_ok-mark.mark g.S.Surface.beyond c.in_ok-mark.ensures.under c.in_ok-mark.ensures.place
    (begins_along newest (kept c.mark.new.self) old c.put_and_check.ensures.marks c.mark.ensures.marks) c.back_to-in-Err.ensures.kept
