-- Boxes of what moves.
use Rattle.std.specs.Prelude.{◌≡◌, ℕ, ◌≤◌, List, length, Some, None, slice_get}
use Rattle.std.specs.Ordering.{nat_cmp}
use Rattle.std.specs.FinMap as finite
use Rattle.grid_base.specs.declared.Extent.{Extent}
use Rattle.grid_base.specs.declared.Positions.{Positions}
use Rattle.grid_base.specs.Extents.{IsIn}
use Rattle.pair_paths.specs.declared.path.Path.{Path}
use Rattle.pair_paths.specs.declared.moving_parts.MovingEdge.{MovingEdge}
use Rattle.pair_paths.specs.declared.moving_parts.MovingFace.{MovingFace}

-- the box has the start and the end
pub record HoldsPath (w : Path) (box : Extent) : Type 0 where
  pub start : IsIn box w.start
  pub end : IsIn box w.end

-- the box has the paths of the edge's ends
pub record HoldsEdge (e : MovingEdge) (box : Extent) : Type 0 where
  pub first : HoldsPath e.first box
  pub second : HoldsPath e.second box

-- the box has the paths of the face's corners
pub record HoldsFace (f : MovingFace) (box : Extent) : Type 0 where
  pub c : HoldsPath f.c box
  pub d : HoldsPath f.d box
  pub e : HoldsPath f.e box

-- the one box has the edge's ends, and the other the face's corners
pub record HoldPositions (edge face : Extent) (f : Positions) : Type 0 where
  pub a : IsIn edge f.a
  pub b : IsIn edge f.b
  pub c : IsIn face f.c
  pub d : IsIn face f.d
  pub e : IsIn face f.e

-- the list has a box of each thing in the other, in its order, and nothing else
pub record AreBoxesOf {X Box : Type 0} (holds : X → Box → Type 0) (xs : List X)
    (boxes : List Box) : Type 0 where
  pub as_long : length boxes ≡ length xs
  pub boxed : (k : ℕ) (x : X) → slice_get xs k ≡ Some x →
      (box : Box) × ((slice_get boxes k ≡ Some box) × holds x box)

-- the map has a box of each thing in the list, by its place there, and nothing else
pub record AreBoxes {X Box : Type 0} (holds : X → Box → Type 0) (xs : List X)
    (m : finite.FinMap nat_cmp Box) : Type 0 where
  pub boxed : (k : ℕ) (x : X) → slice_get xs k ≡ Some x →
      (box : Box) × ((finite.get m k ≡ Some box) × holds x box)
  pub no_others : (k : ℕ) → length xs ≤ k → finite.get m k ≡ None
