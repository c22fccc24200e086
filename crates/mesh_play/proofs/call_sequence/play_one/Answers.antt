use Rattle.std.proofs.Common.{◌≡◌, Some, length, slice_get, refl, arith}
use Rattle.std.proofs.lemmas.Option.{slice_get_read}
use Rattle.std.proofs.lemmas.Result.{on_ok_weaker}
use Rattle.std.proofs.lemmas.List.{length-map}
use Rattle.mesh_base.specs.declared.marks.Mark.{Mark}
use Rattle.mesh_play.specs.Play.{mesh_at_mark}
use Rattle.mesh_play.proofs.PlayMarks.{same_played, marked_along, marks_along, marked_made, marks_made, marked_back, marks_back, mesh_back}
use Rattle.mesh_play.proofs.call_sequence.play_one.Goals as goal

pub returns-in-Make-clause-after : goal.returns-in-Make-clause-after
returns-in-Make-clause-after g c =
    rw c.in-Make.is (on_ok_weaker c.do_act.result (λ made. same_played _ _ _ _ made (marked_along g.S.Surface.beyond _ _ c.args.marks.now.items c.requires.marks c.do_act.ensures.marks)) c.do_act.ensures.mesh)

pub returns-in-Make-clause-marks : goal.returns-in-Make-clause-marks
returns-in-Make-clause-marks g c =
    marks_along g.S.Surface.beyond _ _ c.args.marks.now.items c.requires.marks c.do_act.ensures.marks

pub returns-in_ok-mark-in-MakeMark-clause-after : goal.returns-in_ok-mark-in-MakeMark-clause-after
returns-in_ok-mark-in-MakeMark-clause-after g c =
    let made = c.in_ok-mark-in-MakeMark in
    rw (c.in-MakeMark.is, c.push_reserved.ensures.items, c.reserve.ensures.items)
    (same_played _ _ _ _ made.ensures.mesh (marked_made g.S.Surface.beyond _ _ c.args.marks.now.items made.mark _ c.requires.marks made.ensures.marks made.ensures.stands))

pub returns-in_ok-mark-in-MakeMark-clause-marks : goal.returns-in_ok-mark-in-MakeMark-clause-marks
returns-in_ok-mark-in-MakeMark-clause-marks g c =
    let made = c.in_ok-mark-in-MakeMark in
    rw (c.push_reserved.ensures.items, c.reserve.ensures.items) (marks_made g.S.Surface.beyond _ _ c.args.marks.now.items made.mark c.requires.marks made.ensures.marks made.ensures.holds made.ensures.under)

pub returns-in-BackTo-clause-after : goal.returns-in-BackTo-clause-after
returns-in-BackTo-clause-after g c =
    let marks = c.args.marks.now.items in
    let inside = rw c.in-BackTo.is at c.requires.lawful in
    let here : slice_get marks c.in-BackTo.nth ≡ Some c.index-mark.result.now = slice_get_read marks (length marks) c.in-BackTo.nth c.index-mark.result.now refl (omega (arith, inside, length-map marks (λ (k : Mark). mesh_at_mark (g.S.Surface.kept c.args.surface.now) k))) c.index-mark.ensures in
    rw (c.in-BackTo.is, c.truncate.ensures.items)
    (same_played _ _ _ _ (mesh_back _ marks c.in-BackTo.nth c.index-mark.result.now _ _ here c.back_to.ensures.mesh) (marked_back g.S.Surface.beyond _ _ marks c.in-BackTo.nth c.index-mark.result.now c.requires.marks here c.back_to.ensures.marks))

pub returns-in-BackTo-clause-marks : goal.returns-in-BackTo-clause-marks
returns-in-BackTo-clause-marks g c =
    let marks = c.args.marks.now.items in
    let inside = rw c.in-BackTo.is at c.requires.lawful in
    let here : slice_get marks c.in-BackTo.nth ≡ Some c.index-mark.result.now = slice_get_read marks (length marks) c.in-BackTo.nth c.index-mark.result.now refl (omega (arith, inside, length-map marks (λ (k : Mark). mesh_at_mark (g.S.Surface.kept c.args.surface.now) k))) c.index-mark.ensures in
    rw c.truncate.ensures.items (marks_back g.S.Surface.beyond _ _ marks c.in-BackTo.nth c.index-mark.result.now c.requires.marks here c.back_to.ensures.marks)
