-- Trees of boxes. A list of nodes is read from its end, where each
-- node comes before those below it.
use Rattle.std.specs.Prelude.{◌≡◌, ℕ, ◌≤◌, Bool, true, cond, nat_eq, List, [], ◌∷◌, length, take, Option, slice_get, option_map}
use Rattle.std.specs.List.{filter, IsDistinct}
use Rattle.std.specs.Map.{keys_of}
use Rattle.grid_base.specs.Triples.{Triple}
use Rattle.grid_base.specs.Extents.{IsIn}
use Rattle.box_tree.specs.declared.labelled_box.LabelledBox.{LabelledBox}
use Rattle.box_tree.specs.declared.question.Question.{Question}
use Rattle.box_tree.specs.declared.node.Node.{Node}
use Rattle.box_tree.specs.Labels.{has_label}
use Rattle.box_tree.specs.Overlapping.{overlaps_apart}

-- the first box has each point of the second, which has each label of the first
pub record Has (e f : LabelledBox) : Type 0 where
  pub each : (p : Triple) → IsIn f.at p → IsIn e.at p
  pub labels : (n : ℕ) → has_label e.labels n ≡ true → has_label f.labels n ≡ true

-- the box has those of all nodes
abbrev pub AllIn : LabelledBox → List Node → Type 0
AllIn e [] = Unit {0}
AllIn e (n ∷ ns) = Has e n.bound × AllIn e ns

-- each node has the boxes of those below it, which come next
abbrev pub IsTree : List Node → Type 0
IsTree [] = Unit {0}
IsTree (n ∷ ns) = (n.below ≤ length ns) × (AllIn n.bound (take n.below ns) × IsTree ns)

-- the items and their boxes
abbrev pub entries : List Node → List (ℕ × LabelledBox)
entries [] = []
entries (n ∷ ns) = cond (nat_eq n.below 0) ((n.item, n.bound) ∷ entries ns) (entries ns)

-- no item stands twice
abbrev pub AreItemsOnce : List Node → Type 0
AreItemsOnce ns = IsDistinct nat_eq (keys_of (entries ns))

-- whether the question finds the box
abbrev pub finds : Question → LabelledBox → Bool
finds q e = overlaps_apart q.at q.a q.b e

-- the items that the question finds
abbrev pub items_found : Question → List (ℕ × LabelledBox) → List ℕ
items_found q es = keys_of (filter (λ e. finds q e.1) es)

-- the place with its box; none, where there is no box
abbrev pub entry_at : List LabelledBox → ℕ → Option (ℕ × LabelledBox)
entry_at boxes i = option_map (λ e. (i, e)) (slice_get boxes i)
