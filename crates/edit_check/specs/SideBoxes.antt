-- Boxes of the sides of a face.
use Rattle.grid_base.specs.declared.Extent.{Extent}
use Rattle.pair_paths.specs.declared.MovingFace.{MovingFace}
use Rattle.pair_paths.specs.Bounds.{HoldsPath}

-- each of the three boxes has the paths of the ends of its side: the first corner and the second,
-- the second and the third, the third and the first
pub record HoldSides (f : MovingFace) (first second third : Extent) : Type 0 where
  pub first_c : HoldsPath f.c first
  pub first_d : HoldsPath f.d first
  pub second_d : HoldsPath f.d second
  pub second_e : HoldsPath f.e second
  pub third_e : HoldsPath f.e third
  pub third_c : HoldsPath f.c third
