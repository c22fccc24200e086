-- Boxes that stand in others, and the answer to the last question for those near a box.
use Rattle.std.specs.Prelude.{ℕ, List, IfSome}
use Rattle.std.proofs.Common.{Option}
use Rattle.grid_base.specs.declared.Extent.{Extent}
use Rattle.grid_base.specs.Ordered.{IsUnder}
use Rattle.box_tree.specs.declared.LabelledBox.{LabelledBox}
use Rattle.box_tree.specs.Found.{AreNear}
use Rattle.box_tree.specs.Overlapping.{LabelledBoxes}

-- the first box has all of the second
pub record IsAround (outer inner : Extent) : Type 0 where
  pub low : IsUnder outer.low inner.low
  pub high : IsUnder inner.high outer.high

-- what is near is near the box that was asked for last
abbrev pub IsKept : LabelledBoxes → Option Extent → List (ℕ × LabelledBox) → Type 0
IsKept tree asked near = IfSome asked (λ at. AreNear tree at near)
