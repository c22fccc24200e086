use Rattle.std.proofs.Common.{◌∙◌}
use Rattle.grid_base.specs.declared.Extent.{Extent}
use Rattle.box_tree.proofs.SmallBoxes.{widened_corners, extent_is}
use Rattle.box_tree.proofs.small_box.SmallBox.extent.Goals as goal

pub returns : goal.returns
returns c =
    let b = c.self.inside in
    let e : Extent = record { low = record { x = b.low_x; y = b.low_y; z = b.low_z }; high = record { x = b.high_x; y = b.high_y; z = b.high_z }; ordered = b.ordered } in
    extent_is e _ _ _ _ _ _ (widened_corners e _ _ _ _ _ _ c.from.ensures c.from-2.ensures c.from-3.ensures c.from-4.ensures c.from-5.ensures c.from-6.ensures) _ ∙ c.self.view_is
