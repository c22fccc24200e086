-- Orders of boxes.
use Rattle.std.specs.Prelude.{◌≡◌, ℕ, ◌<◌, Bool, true, nat_eq, List, length}
use Rattle.std.specs.List.{list_any, IsDistinct}
use Rattle.cell_grid.specs.Filed.{has}
use Rattle.box_tree.specs.declared.labelled_box.LabelledBox.{LabelledBox}

-- each place of a box is in the list, and no number stands there twice
pub record HasEachPlace (boxes : List LabelledBox) (order : List ℕ) : Type 0 where
  pub each : (i : ℕ) → i < length boxes → has i order ≡ true
  pub once : IsDistinct nat_eq order

-- whether two places, each beside a number to sort by, are the same
abbrev pub same_place : ℕ × ℕ → ℕ × ℕ → Bool
same_place k l = nat_eq k.1 l.1

-- each place of a box is in the list, beside a number to sort by, and no place stands there twice
pub record HaveEachPlace (boxes : List LabelledBox) (keyed : List (ℕ × ℕ)) : Type 0 where
  pub each : (i : ℕ) → i < length boxes → list_any (λ k. nat_eq i k.1) keyed ≡ true
  pub once : IsDistinct same_place keyed
