-- Faces as frames see them.
use Rattle.std.specs.Prelude.{List, IfSome}
use Rattle.pair_paths.specs.declared.MovingFace.{MovingFace}
use Rattle.pair_paths.specs.Bounds.{AreBoxes}
use Rattle.pair_paths.specs.FaceBoxes.{IsFaceBoxIn}
use Rattle.pair_candidates.specs.declared.views.View.{View}
use Rattle.pair_candidates.specs.declared.views.Views.{Views}
use Rattle.pair_candidates.specs.Slabs.{AreStill}

-- the view has the boxes of the faces in its frame, and the faces themselves where all go with it
pub record IsView (faces : List MovingFace) (v : View) : Type 0 where
  pub boxes : AreBoxes (IsFaceBoxIn v.frame) faces v.boxes
  pub still : IfSome v.still (AreStill v.frame faces)

-- each of the views is one
pub record AreViews (faces : List MovingFace) (w : Views) : Type 0 where
  pub first : IsView faces w.first
  pub other : IfSome w.other (IsView faces)
