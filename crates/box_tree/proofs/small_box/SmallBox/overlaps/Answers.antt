use Rattle.std.proofs.Common.{◌∙◌, ap}
use Rattle.grid_base.specs.declared.Extent.{Extent}
use Rattle.grid_base.specs.Extents.{overlaps}
use Rattle.box_tree.specs.contracts.small_box.SmallBox.{the_view}
use Rattle.box_tree.proofs.SmallBoxes.{overlaps-read, overlaps-not}
use Rattle.box_tree.proofs.small_box.SmallBox.overlaps.Goals as goal

pub returns-then-not-meet_along-2 : goal.returns-then-not-meet_along-2
returns-then-not-meet_along-2 c =
    let e : Extent = the_view c.a.inside in
    let f : Extent = the_view c.b.inside in
    overlaps-not e f c.if-not-meet_along.ensures c.if-not-meet_along-2.ensures
    ∙ ap (λ (x : Extent). overlaps x f) c.a.view_is ∙ ap (overlaps c.args.self.now) c.b.view_is

pub returns : goal.returns
returns c =
    let e : Extent = the_view c.a.inside in
    let f : Extent = the_view c.b.inside in
    overlaps-read e f c.meet_along-3.result c.if-not-meet_along.ensures c.if-not-meet_along-2.ensures c.meet_along-3.ensures
    ∙ ap (λ (x : Extent). overlaps x f) c.a.view_is ∙ ap (overlaps c.args.self.now) c.b.view_is
