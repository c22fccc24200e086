use Rattle.std.proofs.Common.{Option, length, drop, get_or, sym, ap, subst, ◌∙◌, arith}
use Rattle.std.specs.Prelude.{Ok}
use Rattle.mesh_base.specs.declared.ids.PairName.{PairName}
use Rattle.std.specs.List.{AllByRecursion}
use Rattle.edit_pinch.specs.Pinch.{fans, first_point, pinch_scaffold}
use Rattle.edit_pinch.proofs.CopyClosed.{all_later}
use Rattle.edit_pinch.proofs.PinchDone.{pinched_live}
use Rattle.edit_pinch.specs.Rims.{AreLiveFaces}
use Rattle.edit_pinch.specs.Tried.{left_by, KeepsUnlessMade}
use Rattle.edit_pinch.proofs.Answered.{fans_live, first_of_two, later_are, first_point_is, later_copies_are, hit_is_refused, done_answer, done_mesh}
use Rattle.edit_pinch.proofs.Room.{room_at_first}
use Rattle.edit_check.proofs.Left.{keeps}
use Rattle.edit_pinch.proofs.operation.pinch_or_leave.Goals as goal

pub fan_point-requires : goal.fan_point-requires
fan_point-requires g c =
    let m = g.S.Surface.mesh c.args.mesh.now in
    let v = c.args.v in
    let first = first_of_two (AreLiveFaces m) (fans m v) c.index-parts-0.result c.requires.tried.two_fans (fans_live m v c.requires.closed) in
    let is = c.as_slice.ensures ∙ c.index-parts-0.is ∙ ap (λ l. get_or l 0 c.index-parts-0.result) c.requires.fans in
    subst (AreLiveFaces m) (sym is) first

pub copies_for-requires-clause-live : goal.copies_for-requires-clause-live
copies_for-requires-clause-live g c =
    let m = g.S.Surface.mesh c.args.mesh.now in
    let v = c.args.v in
    subst (AllByRecursion (AreLiveFaces m)) (sym (later_are c.args.parts.now ∙ ap (drop 1) c.requires.fans)) (all_later (AreLiveFaces m) (fans m v) (fans_live m v c.requires.closed))

pub copies_for-requires-clause-ids : goal.copies_for-requires-clause-ids
copies_for-requires-clause-ids g c =
    let m = g.S.Surface.mesh c.args.mesh.now in
    let v = c.args.v in
    let sound = g.met.S.Surface.sound c.args.mesh.now in
    let live = pinched_live m v sound c.requires.tried.two_fans in
    let room = (room_at_first m v (first_point m v) sound c.requires.closed live c.requires.tried.fits).vertex_ids in
    let same = ap length (later_are c.args.parts.now ∙ ap (drop 1) c.requires.fans) in
    omega (arith, room, same)

pub apply_or_roll_back-requires-clause-others : goal.apply_or_roll_back-requires-clause-others
apply_or_roll_back-requires-clause-others g c = later_are c.args.parts.now ∙ ap (drop 1) c.requires.fans

pub apply_or_roll_back-requires-clause-point : goal.apply_or_roll_back-requires-clause-point
apply_or_roll_back-requires-clause-point g c =
    first_point_is (g.S.Surface.mesh c.args.mesh.now) c.args.v c.args.parts.now c.index-parts-0.result c.as_slice.result.now c.in_ok-at.at c.requires.tried.two_fans c.requires.fans c.index-parts-0.is c.as_slice.ensures c.in_ok-at.ensures

pub apply_or_roll_back-requires-clause-copies : goal.apply_or_roll_back-requires-clause-copies
apply_or_roll_back-requires-clause-copies g c =
    c.as_slice-2.ensures ∙ later_copies_are (g.S.Surface.mesh c.args.mesh.now) c.args.v c.args.parts.now c.in_ok-copies.copies c.requires.fans c.in_ok-copies.ensures

pub returns-in-Some-clause-answer : goal.returns-in-Some-clause-answer
returns-in-Some-clause-answer g c =
    hit_is_refused (g.S.Surface.mesh c.args.mesh.now) c.args.v c.args.depth c.requires.tried c.in-Some.p (sym c.in-Some.is ∙ c.in_ok-p.ensures.first)

pub returns-in-Some-clause-mesh : goal.returns-in-Some-clause-mesh
returns-in-Some-clause-mesh g c =
    let m = g.S.Surface.mesh c.args.mesh.now in
    c.in_ok-p.ensures.mesh ∙ ap (λ o. left_by m (pinch_scaffold m c.args.v).mesh (Ok o)) c.in-Some.is

pub returns-in-Some-clause-marks : goal.returns-in-Some-clause-marks
returns-in-Some-clause-marks g c = c.in_ok-p.ensures.marks

pub returns-in-Some-clause-kept : goal.returns-in-Some-clause-kept
returns-in-Some-clause-kept g c =
    let kept = g.S.Surface.kept in
    subst (λ (r : Option PairName). KeepsUnlessMade (Ok r) (kept c.apply_or_roll_back.new.mesh) (kept c.args.mesh.now)) c.in-Some.is c.in_ok-p.ensures.kept

pub returns-in-None-clause-marks : goal.returns-in-None-clause-marks
returns-in-None-clause-marks g c = c.in_ok-p.ensures.marks

pub returns-in-None-clause-answer : goal.returns-in-None-clause-answer
returns-in-None-clause-answer g c =
    let m = g.S.Surface.mesh c.args.mesh.now in
    let v = c.args.v in
    let point = first_point_is m v c.args.parts.now c.index-parts-0.result c.as_slice.result.now c.in_ok-at.at c.requires.tried.two_fans c.requires.fans c.index-parts-0.is c.as_slice.ensures c.in_ok-at.ensures in
    let copies = later_copies_are m v c.args.parts.now c.in_ok-copies.copies c.requires.fans c.in_ok-copies.ensures in
    done_answer m v c.args.depth c.in_ok-at.at c.in_ok-copies.copies point copies c.requires.tried (sym c.in-None.is ∙ c.in_ok-p.ensures.first)

pub returns-in-None-clause-mesh : goal.returns-in-None-clause-mesh
returns-in-None-clause-mesh g c =
    let m = g.S.Surface.mesh c.args.mesh.now in
    let v = c.args.v in
    let point = first_point_is m v c.args.parts.now c.index-parts-0.result c.as_slice.result.now c.in_ok-at.at c.requires.tried.two_fans c.requires.fans c.index-parts-0.is c.as_slice.ensures c.in_ok-at.ensures in
    let copies = later_copies_are m v c.args.parts.now c.in_ok-copies.copies c.requires.fans c.in_ok-copies.ensures in
    c.in_ok-p.ensures.mesh
    ∙ ap (λ o. left_by m (pinch_scaffold m v).mesh (Ok o)) c.in-None.is
    ∙ done_mesh m v c.args.depth c.in_ok-at.at c.in_ok-copies.copies point copies

pub returns-in_err-p-clause-marks : goal.returns-in_err-p-clause-marks
returns-in_err-p-clause-marks g c = c.apply_or_roll_back.ensures.marks

pub returns-in_err-p-clause-kept : goal.returns-in_err-p-clause-kept
returns-in_err-p-clause-kept g c =
    let kept = g.S.Surface.kept in
    keeps c.from_residual-in_err-p.result (kept c.apply_or_roll_back.new.mesh) (kept c.args.mesh.now) c.in_err-p.ensures.kept
