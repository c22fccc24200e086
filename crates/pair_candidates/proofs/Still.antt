-- Faces that go with a frame, and what is told of an edge that goes with it too.
use Rattle.std.proofs.Common.{◌≡◌, ◌∙◌, ⊎_elim, inl, inr, ℕ, List, refl, sym, subst}
use Rattle.std.specs.Prelude.{IfSome}
use Rattle.grid_base.specs.Separation.{MoveTogether}
use Rattle.pair_paths.specs.declared.Frame.{Frame}
use Rattle.pair_paths.specs.declared.MovingEdge.{MovingEdge}
use Rattle.pair_paths.specs.declared.MovingFace.{MovingFace}
use Rattle.pair_paths.specs.Pairing.{starts, ends}
use Rattle.std.proofs.Common.{Bool}
use Rattle.pair_candidates.specs.declared.still_faces.StillFaces.{StillFaces}
use Rattle.pair_candidates.specs.declared.views.View.{View}
use Rattle.pair_candidates.specs.Slabs.{IsFalseOfParted, EdgeGoesWith, FaceGoesWith, AreStill, AreFound}
use Rattle.pair_candidates.specs.Told.{one_or_none, told_with, told_at, told_among}
use Rattle.pair_candidates.specs.Views.{IsView}
use Rattle.pair_candidates.proofs.Asked.{boxes_stay}
use Rattle.pair_candidates.proofs.Picked.{picked_all}
use Rattle.pair_candidates.proofs.Told.{untold, shared_untold}

-- what goes with one frame moves as one
together : (frame : Frame) (e : MovingEdge) (f : MovingFace) → EdgeGoesWith frame e → FaceGoesWith frame f → MoveTogether (starts e f) (ends e f)
together frame e f edge face = record {
  b = edge.second ∙ sym edge.first;
  c = face.c ∙ sym edge.first;
  d = face.d ∙ sym edge.first;
  e = face.e ∙ sym edge.first;
}

-- so what is told of those that are found is what is told of all
pub still_tell_all : {Told : Type 0} (test : MovingEdge → MovingFace → Bool) (what : MovingEdge → MovingFace → Told) (frame : Frame) (e : MovingEdge) (faces : List MovingFace) (s : StillFaces) (near : List ℕ)
    → IsFalseOfParted test → EdgeGoesWith frame e → AreStill frame faces s → AreFound faces e near → told_at test what e faces near ≡ told_among test what e faces
still_tell_all test what frame e faces s near off edge still found = picked_all (λ o. one_or_none (told_with test what e o)) faces near refl found.rising
    (λ i f at. ⊎_elim
    (λ there. inl there)
    (λ left. inr (⊎_elim
    (λ shared. shared_untold test what e f shared)
    (λ apart. untold test what e f (off e f (record { as_one = together frame e f edge (still.going i f at); parted = apart })))
    left))
    (found.each i f at))

-- a view whose frame, boxes and faces stay is a view of the same faces
pub view_stays : (faces : List MovingFace) (old new : View) → new.frame ≡ old.frame → new.boxes ≡ old.boxes → new.still ≡ old.still → IsView faces old → IsView faces new
view_stays faces old new frame boxes still h = record {
  boxes = boxes_stay faces old.frame new.frame old.boxes new.boxes frame boxes h.boxes;
  still = subst (λ o. IfSome o (AreStill new.frame faces)) (sym still) (subst (λ f. IfSome old.still (AreStill f faces)) (sym frame) h.still);
}
