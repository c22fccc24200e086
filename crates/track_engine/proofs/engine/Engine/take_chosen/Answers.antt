use Rattle.std.proofs.Common.{rules, not, ◌+◌, List, ◌≡◌, ap, sym, ◌∙◌, subst}
use Rattle.std.proofs.lemmas.Result.{err_from_is_err_and}
use Rattle.mesh_base.specs.Shifts.{Shifts}
use Rattle.step_choose.specs.Chosen.{way_of}
use Rattle.log_write.proofs.SaidLines.{says_nothing}
use Rattle.track_engine.specs.declared.open_group.OpenGroup.{OpenGroup}
use Rattle.track_engine.specs.Effects.{moved_mesh, way_lines}
use Rattle.track_engine.specs.Groups.{failed_if}
use Rattle.track_engine.specs.Invariant.{MarksHold}
use Rattle.track_engine.specs.Placing.{CanPlace}
use Rattle.track_engine.proofs.OpenMarks.{marks_along, marks_failed_along}
use Rattle.track_engine.proofs.engine.Engine.take_chosen.Goals as goal

pub place_all-requires : goal.place_all-requires
place_all-requires g c =
    let P : Shifts → Type 0 = λ taken. CanPlace (g.S.Surface.mesh c.args.self.now.mesh) taken in
    subst P (sym c.as_slice.ensures) c.requires.places

pub returns-in_err-place_all-clause-says : goal.returns-in_err-place_all-clause-says
returns-in_err-place_all-clause-says g c =
    let p = err_from_is_err_and c.from_residual.result c.from_residual.ensures.1 in
    rw (p.1, p.2) (says_nothing (way_lines (way_of c.args.choice)) (g.O.Outside.around c.args.outside.now))

pub returns-in_err-place_all-clause-marks : goal.returns-in_err-place_all-clause-marks
returns-in_err-place_all-clause-marks g c = marks_along g.S.Surface.beyond (g.S.Surface.kept c.place_all.new.mesh) (g.S.Surface.kept c.args.self.now.mesh) c.args.self.now.run.groups c.place_all.ensures.marks c.requires.marks

pub returns-in_err-say_way-clause-says : goal.returns-in_err-say_way-clause-says
returns-in_err-say_way-clause-says g c =
    let p = err_from_is_err_and c.from_residual-in_err-say_way.result c.from_residual-in_err-say_way.ensures.1 in
    rw (p.1, p.2) c.in_err-say_way.ensures

pub returns-in_err-say_way-clause-marks : goal.returns-in_err-say_way-clause-marks
returns-in_err-say_way-clause-marks g c = marks_along g.S.Surface.beyond (g.S.Surface.kept c.place_all.new.mesh) (g.S.Surface.kept c.args.self.now.mesh) c.args.self.now.run.groups c.place_all.ensures.marks c.requires.marks

pub returns-clause-moved : goal.returns-clause-moved
returns-clause-moved g c =
    let m = g.S.Surface.mesh c.args.self.now.mesh in
    let moved : g.S.Surface.mesh c.place_all.new.mesh ≡ moved_mesh m c.as_slice.result.now = search rules in
    moved ∙ ap (moved_mesh m) c.as_slice.ensures

pub returns-clause-run : goal.returns-clause-run
returns-clause-run g c =
    let run = c.args.self.now.run in
    let failed = c.fail_if.ensures ∙ ap (λ b. failed_if (not b) run.groups) c.is_whole.ensures in
    λ i. record run { asked = c.clear.ensures i; steps = run.steps + 1; groups = failed i }

pub returns-clause-says : goal.returns-clause-says
returns-clause-says g c = c.in_ok-say_way.ensures

pub returns-clause-marks : goal.returns-clause-marks
returns-clause-marks g c =
    let new = g.S.Surface.kept c.place_all.new.mesh in
    let P : List OpenGroup → Type 0 = λ groups. MarksHold g.S.Surface.beyond new groups in
    subst P (sym c.fail_if.ensures) (marks_failed_along g.S.Surface.beyond new (g.S.Surface.kept c.args.self.now.mesh) _ c.args.self.now.run.groups c.place_all.ensures.marks c.requires.marks)
