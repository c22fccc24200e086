-- What the faces make whose boxes meet an edge's, and which have neither of its ends as a label, is what all faces make.
use Rattle.std.proofs.Common.{◌≡◌, ⊎_elim, ℕ, Bool, true, false, ◌||◌, nat_eq, not, List, [], Option, Some, None, refl, sym, ap, ◌∙◌}
use Rattle.std.specs.Prelude.{slice_get, ◌==◌}
use Rattle.std.specs.List.{flat_map}
use Rattle.std.specs.Ordering.{nat_cmp}
use Rattle.std.specs.FinMap as finite
use Rattle.std.proofs.lemmas.Bool.{and_cases, and_parts, or_cases, or_left, or_right, eqb-true, eq-eqb, false≢true}
use Rattle.grid_base.specs.declared.Extent.{Extent}
use Rattle.grid_base.specs.Extents.{overlaps}
use Rattle.box_tree.specs.declared.LabelledBox.{LabelledBox}
use Rattle.box_tree.specs.Labels.{has_label, is_apart}
use Rattle.box_tree.specs.Overlapping.{overlaps_apart, overlapping_apart}
use Rattle.mesh_base.specs.declared.ids.Corners.{Corners}
use Rattle.mesh_base.specs.Sides.{has_corner}
use Rattle.mesh_base.proofs.Tests.{both_ways}
use Rattle.pair_paths.specs.declared.frame.Frame.{Frame}
use Rattle.pair_paths.specs.declared.moving_parts.MovingEdge.{MovingEdge}
use Rattle.pair_paths.specs.declared.moving_parts.MovingFace.{MovingFace}
use Rattle.pair_paths.specs.Bounds.{AreBoxes}
use Rattle.pair_paths.specs.FaceBoxes.{IsFaceBoxIn, labels_of}
use Rattle.pair_paths.specs.Frames.{HoldsFaceIn}
use Rattle.pair_paths.specs.Pairing.{have_a_vertex_in_common}
use Rattle.pair_paths.proofs.Near.{picked_make_all}

-- ---- a label of a face is a corner of it
other_way : (n x : ℕ) → nat_eq n x ≡ (x == n)
other_way n x = both_ways (nat_eq n x) (x == n) (λ h. eq-eqb x n (sym (eqb-true n x h))) (λ h. eq-eqb n x (sym (eqb-true x n h)))

alike : (a b c x y z : Bool) → a ≡ x → b ≡ y → c ≡ z → (a || b || c) ≡ (x || y || z)
alike a b c x y z h i j = cc

corner_of_label : (c : Corners) (n : ℕ) → has_label (labels_of c) n ≡ true → has_corner c n ≡ true
corner_of_label c n h =
    let p = and_parts (not (nat_eq n 0)) (nat_eq n c.first || nat_eq n c.second || nat_eq n c.third) h in
    sym (alike _ _ _ _ _ _ (other_way n c.first) (other_way n c.second) (other_way n c.third)) ∙ p.1

was_true : (b : Bool) → not b ≡ false → b ≡ true
was_true true h = refl
was_true false h = absurd (false≢true (sym h))

-- so a face that is not apart from the ends of an edge has one of them as a corner
shared : (e : MovingEdge) (f : MovingFace) → is_apart (labels_of f.corners) e.a e.b ≡ false → have_a_vertex_in_common e f ≡ true
shared e f h =
    let known = labels_of f.corners in
    let a = has_corner f.corners e.a in
    let b = has_corner f.corners e.b in
    ⊎_elim
    (λ first. or_left a b (corner_of_label f.corners e.a first))
    (λ second. or_right a b (corner_of_label f.corners e.b second))
    (or_cases (has_label known e.a) (has_label known e.b) (was_true (has_label known e.a || has_label known e.b) h))

-- ---- where a face makes nothing whose box is apart, or which shares a vertex with the edge, what the others make is what all make
module _ {Y : Type 0} (frame : Frame) (e : MovingEdge) (made : Option MovingFace → List Y) (faces : List MovingFace) (m : finite.FinMap nat_cmp LabelledBox) (at : Extent) (boxes : AreBoxes (IsFaceBoxIn frame) faces m) (no_face : made None ≡ [])
    (off : (f : MovingFace) (box : Extent) → HoldsFaceIn frame f box → overlaps box at ≡ false → made (Some f) ≡ [])
    (sharing : (f : MovingFace) → have_a_vertex_in_common e f ≡ true → made (Some f) ≡ []) where
  not_picked : (f : MovingFace) (box : LabelledBox) → IsFaceBoxIn frame f box → overlaps_apart at e.a e.b box ≡ false → made (Some f) ≡ []
  not_picked f box is left = ⊎_elim
      (λ apart. off f box.at is.held apart)
      (λ known. sharing f (shared e f (ap (λ l. is_apart l e.a e.b) (sym is.known) ∙ known)))
      (and_cases (overlaps box.at at) (is_apart box.labels e.a e.b) left)

  pub near_faces_make_all : (near : List ℕ) → near ≡ overlapping_apart m at e.a e.b → flat_map (λ k. made (slice_get faces k)) near ≡ flat_map (λ f. made (Some f)) faces
  near_faces_make_all near is = picked_make_all (IsFaceBoxIn frame) made faces m (overlaps_apart at e.a e.b) boxes no_face not_picked near is
