use Rattle.std.proofs.Common.{ap, sym, subst, ◌∙◌}
use Rattle.box_tree.specs.Overlapping.{overlapping_apart}
use Rattle.pair_candidates.specs.Told.{LeavesOut}
use Rattle.pair_candidates.proofs.Still.{view_stays}
use Rattle.pair_candidates.proofs.Told.{near_tell_all}
use Rattle.pair_candidates.proofs.neighbours.near_by_boxes.Goals as goal

pub returns-in_err-look_ahead-clause-view : goal.returns-in_err-look_ahead-clause-view
returns-in_err-look_ahead-clause-view g c =
    view_stays c.args.scan.now.faces.now c.args.view.now _ c.in_err-look_ahead.ensures.frame c.in_err-look_ahead.ensures.boxes c.in_err-look_ahead.ensures.still c.requires

pub returns-in_err-overlapping_apart-clause-view : goal.returns-in_err-overlapping_apart-clause-view
returns-in_err-overlapping_apart-clause-view g c =
    view_stays c.args.scan.now.faces.now c.args.view.now _ c.in_ok-look_ahead.ensures.frame c.in_ok-look_ahead.ensures.boxes c.in_ok-look_ahead.ensures.still c.requires

pub returns-clause-view : goal.returns-clause-view
returns-clause-view g c =
    view_stays c.args.scan.now.faces.now c.args.view.now _ c.in_ok-look_ahead.ensures.frame c.in_ok-look_ahead.ensures.boxes c.in_ok-look_ahead.ensures.still c.requires

pub returns-clause-near : goal.returns-clause-near
returns-clause-near g c =
    let e = c.args.e.now in
    let view = c.args.view.now in
    let at = c.of-at.result in
    near_tell_all (g.A.PairTest.test c.args.scan.now.test.now) g.A.PairTest.what view.frame e c.args.scan.now.faces.now view.boxes at c.overlapping_apart.new.into.items c.requires.boxes
    (subst (LeavesOut (g.A.PairTest.test c.args.scan.now.test.now) view.frame e) (sym c.of-at.ensures) c.box_of.ensures)
    (c.in_ok-overlapping_apart.ensures ∙ ap (λ x. overlapping_apart c.look_ahead.new.view.boxes at x.a x.b) c.e.view_is ∙ ap (λ m. overlapping_apart m at e.a e.b) c.in_ok-look_ahead.ensures.boxes)
