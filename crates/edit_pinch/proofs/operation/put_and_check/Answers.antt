use Rattle.std.proofs.Common.{◌≡◌, sym, subst, ◌∙◌}
use Rattle.std.specs.Prelude.{IfOk}
use Rattle.std.specs.List.{All, zip}
use Rattle.grid_decided.specs.Decided.{meets_exactly}
use Rattle.mesh_base.specs.Changes.{with_point}
use Rattle.edit_pinch.specs.Pinch.{copy_points}
use Rattle.edit_base.specs.Scaffold.{Scaffold, first_failing}
use Rattle.edit_pinch.proofs.PinchDone.{pinched_live}
use Rattle.edit_check.specs.Untouched.{MoveFits}
use Rattle.edit_pinch.specs.InTurn.{CopiedInTurn}
use Rattle.edit_pinch.proofs.Room.{pinched_in_turn}
use Rattle.edit_pinch.proofs.Scaffolded.{as_many, stands_doubled, moves_fit, is_scaffold, may_be_checked}
use Rattle.edit_pinch.proofs.operation.put_and_check.Goals as goal

pub apply_pinch-requires-clause-live : goal.apply_pinch-requires-clause-live
apply_pinch-requires-clause-live g c = pinched_live (g.S.Surface.mesh c.args.mesh.now) c.args.v (g.met.S.Surface.sound c.args.mesh.now) c.requires.tried.two_fans

pub apply_pinch-requires-clause-same : goal.apply_pinch-requires-clause-same
apply_pinch-requires-clause-same g c = as_many (g.S.Surface.mesh c.args.mesh.now) c.args.v c.args.others.now c.args.at c.args.copies.now c.requires.others c.requires.point c.requires.copies

pub apply_pinch-requires-clause-turns : goal.apply_pinch-requires-clause-turns
apply_pinch-requires-clause-turns g c =
    let m = g.S.Surface.mesh c.args.mesh.now in
    let v = c.args.v in
    let sound = g.met.S.Surface.sound c.args.mesh.now in
    let live = pinched_live m v sound c.requires.tried.two_fans in
    subst (λ l. CopiedInTurn v (with_point m v c.args.at) (zip l (copy_points c.args.copies.now))) (sym c.requires.others)
    (pinched_in_turn m v c.args.at sound c.requires.closed live c.requires.tried.fits (copy_points c.args.copies.now))

pub check-requires-clause-fits : goal.check-requires-clause-fits
check-requires-clause-fits g c =
    subst (All MoveFits) (sym (c.as_slice.ensures ∙ c.in_ok-moves.ensures)) (moves_fit c.doubled-here.result c.args.v c.args.at c.args.copies.now c.doubled-here.ensures.within)

pub check-requires-clause-clear : goal.check-requires-clause-clear
check-requires-clause-clear g c =
    let m = g.S.Surface.mesh c.args.mesh.now in
    let here = stands_doubled m c.args.v c.doubled-here.result c.point_of.result c.doubled-here.ensures.value c.point_of.ensures in
    may_be_checked m c.args.v c.args.others.now c.args.at c.args.copies.now c.requires.others c.requires.point c.requires.copies c.doubled-here.result here
    (g.S.Surface.mesh c.apply_pinch.new.mesh) c.as_slice.result.now c.as_slice-2.result.now c.in_ok-apply_pinch.ensures.made (c.as_slice.ensures ∙ c.in_ok-moves.ensures) (c.as_slice-2.ensures ∙ c.in_ok-together.ensures)
    (g.met.S.Surface.sound c.args.mesh.now) c.requires.clear c.next_face-fresh_from.result c.next_face-fresh_from.ensures

pub returns-clause-first : goal.returns-clause-first
returns-clause-first g c =
    let m = g.S.Surface.mesh c.args.mesh.now in
    let here = stands_doubled m c.args.v c.doubled-here.result c.point_of.result c.doubled-here.ensures.value c.point_of.ensures in
    subst (λ (s : Scaffold). IfOk c.check.result (λ found. found ≡ first_failing meets_exactly s c.args.depth))
    (is_scaffold m c.args.v c.args.others.now c.args.at c.args.copies.now c.requires.others c.requires.point c.requires.copies c.doubled-here.result here
    (g.S.Surface.mesh c.apply_pinch.new.mesh) c.as_slice.result.now c.as_slice-2.result.now c.in_ok-apply_pinch.ensures.made (c.as_slice.ensures ∙ c.in_ok-moves.ensures) (c.as_slice-2.ensures ∙ c.in_ok-together.ensures))
    c.check.ensures.first

pub returns-in_err-apply_pinch-clause-marks : goal.returns-in_err-apply_pinch-clause-marks
returns-in_err-apply_pinch-clause-marks g c = c.apply_pinch.ensures.marks

pub returns-clause-marks : goal.returns-clause-marks
returns-clause-marks g c = c.apply_pinch.ensures.marks
