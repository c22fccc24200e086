-- The boxes that have a common point with another, each beside its place.
use Rattle.std.specs.Prelude.{◌≡◌, ℕ, nat_eq, List}
use Rattle.std.specs.List.{filter, IsDistinct}
use Rattle.std.specs.Map.{keys_of, lookup}
use Rattle.std.specs.FinMap as map
use Rattle.std.proofs.lemmas.Map.Entries.{option_filter}
use Rattle.grid_base.specs.declared.Extent.{Extent}
use Rattle.grid_base.specs.Extents.{overlaps}
use Rattle.box_tree.specs.declared.labelled_box.LabelledBox.{LabelledBox}
use Rattle.box_tree.specs.declared.question.Question.{Question}
use Rattle.box_tree.specs.Nodes.{finds}
use Rattle.box_tree.specs.Overlapping.{LabelledBoxes}

-- the list has each place whose box has a common point with this one, beside that box, and no place twice
pub record AreNear (m : LabelledBoxes) (at : Extent) (found : List (ℕ × LabelledBox)) : Type 0 where
  pub each : (i : ℕ) → lookup (nat_eq i) found ≡ option_filter (λ e. overlaps e.at at) (map.get m i)
  pub once : IsDistinct nat_eq (keys_of found)

-- the places and the boxes that the question finds
abbrev pub entries_found : Question → List (ℕ × LabelledBox) → List (ℕ × LabelledBox)
entries_found q es = filter (λ e. finds q e.1) es
