-- Which items of a map have a box that has a common point with another box.
use Rattle.std.specs.Prelude.{◌↔◌, ℕ, Bool, Contains, false, IsTrue, List, nat_eq}
use Rattle.std.specs.List.{filter, list_any}
use Rattle.std.specs.Option.{IsSomeAnd, option_map_or}
use Rattle.std.specs.Map.{keys_of}
use Rattle.std.specs.Ordering.{nat_cmp}
use Rattle.std.specs.FinMap as map
use Rattle.grid_base.specs.declared.Extent.{Extent}
use Rattle.grid_base.specs.Extents.{overlaps, HaveCommonPoint}

-- the extent of each item
abbrev pub Boxes : Type 0
Boxes = map.FinMap nat_cmp Extent

-- the items whose boxes have a common point with this one, rising
abbrev pub overlapping : Boxes → Extent → List ℕ
overlapping m at = keys_of (filter (λ e. overlaps e.1 at) (map.entries m))

-- the item has a box that has a common point with this one
abbrev pub IsItemAt : Boxes → Extent → ℕ → Type 0
IsItemAt m at i = IsSomeAnd (map.get m i) (λ e. HaveCommonPoint e at)

-- the list has exactly those items
abbrev pub HasItemsAt : Boxes → Extent → List ℕ → Type 0
HasItemsAt m at found = (i : ℕ) → Contains found i ↔ IsItemAt m at i

-- the test of an item
abbrev pub is_item_at : Boxes → Extent → ℕ → Bool
is_item_at m at i = option_map_or (λ e. overlaps e at) (map.get m i) false

-- each such item is in the list
abbrev pub HasEachAt : Boxes → Extent → List ℕ → Type 0
HasEachAt m at found =
    (i : ℕ) → IsTrue (is_item_at m at i) → IsTrue (list_any (nat_eq i) found)
