use Rattle.std.proofs.Common.{◌∙◌, ap}
use Rattle.std.specs.Prelude.{slice_get}
use Rattle.pair_paths.specs.FaceBoxes.{IsFaceBoxIn}
use Rattle.pair_paths.proofs.Boxed.{boxes_by_place}
use Rattle.pair_candidates.proofs.views.view_of.Goals as goal

pub returns : goal.returns
returns c = record {
  boxes = boxes_by_place (IsFaceBoxIn c.args.frame) c.args.faces.now c.in_ok-list.list.items c.in_ok-of.field-0 c.in_ok-list.ensures
      (λ i. c.in_ok-of.ensures i ∙ ap (λ bs. slice_get bs i) c.deref.ensures.value);
  still = tt;
}
