-- Which items of a map have a box that has a common point with another box.
use Rattle.std.specs.Prelude.{◌≡◌, ◌↔◌, ℕ, Bool, false, ◌&&◌, List, Contains}
use Rattle.std.specs.List.{filter}
use Rattle.std.specs.List.Sorted.{IsStrictlyIncreasing}
use Rattle.std.specs.Option.{IsSomeAnd}
use Rattle.std.specs.Map.{keys_of}
use Rattle.std.specs.Ordering.{nat_cmp}
use Rattle.std.specs.FinMap as map
use Rattle.grid_base.specs.declared.Extent.{Extent}
use Rattle.grid_base.specs.Extents.{overlaps, HaveCommonPoint}
use Rattle.box_tree.specs.declared.labelled_box.LabelledBox.{LabelledBox}
use Rattle.box_tree.specs.Labels.{has_label, is_apart}

-- the box and the labels of each item
abbrev pub LabelledBoxes : Type 0
LabelledBoxes = map.FinMap nat_cmp LabelledBox

-- whether the box has a common point with this one, and neither of the two labels
abbrev pub overlaps_apart : Extent → ℕ → ℕ → LabelledBox → Bool
overlaps_apart at a b e = overlaps e.at at && is_apart e.labels a b

-- the items whose boxes have a common point with this one, rising
abbrev pub overlapping : LabelledBoxes → Extent → List ℕ
overlapping m at = keys_of (filter (λ e. overlaps e.1.at at) (map.entries m))

-- those of them whose boxes have neither of the two labels, rising
abbrev pub overlapping_apart : LabelledBoxes → Extent → ℕ → ℕ → List ℕ
overlapping_apart m at a b = keys_of (filter (λ e. overlaps_apart at a b e.1) (map.entries m))

-- the item has a box that has a common point with this one, and neither of the two labels
abbrev pub IsItemApart : LabelledBoxes → Extent → ℕ → ℕ → ℕ → Type 0
IsItemApart m at a b i =
    IsSomeAnd (map.get m i) (λ e. HaveCommonPoint e.at at
    × ((has_label e.labels a ≡ false) × (has_label e.labels b ≡ false)))

-- the answer to each question rises
abbrev pub AnswersRise : Type 0
AnswersRise =
    (m : LabelledBoxes) (at : Extent) (a b : ℕ) → IsStrictlyIncreasing (overlapping_apart m at a b)

-- the answer to each question has exactly those items
abbrev pub AnswersHaveItemsApart : Type 0
AnswersHaveItemsApart = (m : LabelledBoxes) (at : Extent) (a b i : ℕ) →
    Contains (overlapping_apart m at a b) i ↔ IsItemApart m at a b i
