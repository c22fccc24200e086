-- Boxes of faces that are known by the faces' corners.
use Rattle.std.specs.Prelude.{◌≡◌}
use Rattle.box_tree.specs.declared.LabelledBox.{LabelledBox}
use Rattle.box_tree.specs.declared.Labels.{Labels}
use Rattle.mesh_base.specs.declared.ids.Corners.{Corners}
use Rattle.pair_paths.specs.declared.frame.Frame.{Frame}
use Rattle.pair_paths.specs.declared.moving_parts.MovingFace.{MovingFace}
use Rattle.pair_paths.specs.Frames.{HoldsFaceIn}

-- the ids of the corners, as labels
abbrev pub labels_of : Corners → Labels
labels_of c = record { first = c.first; second = c.second; third = c.third }

-- the box has the face in the frame, and is known by the face's corners
pub record IsFaceBoxIn (frame : Frame) (f : MovingFace) (box : LabelledBox) : Type 0 where
  pub held : HoldsFaceIn frame f box.at
  pub known : box.labels ≡ labels_of f.corners
