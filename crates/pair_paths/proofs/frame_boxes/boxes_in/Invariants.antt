use Rattle.std.proofs.Common.{◌≡◌, ℕ, ◌<◌, length, Some}
use Rattle.std.specs.Prelude.{slice_get}
use Rattle.box_tree.specs.declared.LabelledBox.{LabelledBox}
use Rattle.pair_paths.specs.declared.moving_parts.MovingFace.{MovingFace}
use Rattle.pair_paths.specs.FaceBoxes.{IsFaceBoxIn}
use Rattle.pair_paths.proofs.frame_boxes.boxes_in.Given as goal

-- the boxes so far
abbrev pub invariant-loop-f : goal.invariant-loop-f
invariant-loop-f l = record {
  as_long : length l.boxes.items ≡ l.f-index;
  boxed : (k : ℕ) (x : MovingFace) → k < l.f-index → slice_get l.faces k ≡ Some x → (box : LabelledBox) × ((slice_get l.boxes.items k ≡ Some box) × IsFaceBoxIn l.frame x box);
}
