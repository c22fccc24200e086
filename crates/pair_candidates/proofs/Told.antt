-- What is told of an edge with the faces near it is what is told of it with all faces; and a scan that ends early.
use Rattle.std.proofs.Common.{◌≡◌, ℕ, Bool, true, false, ◌&&◌, not, cond, List, [], ◌++◌, length, take, Option, Some, None, refl, sym, ap, ◌∙◌}
use Rattle.std.proofs.lemmas.List.{take-append-le}
use Rattle.grid_base.specs.declared.Extent.{Extent}
use Rattle.box_tree.specs.Overlapping.{LabelledBoxes, overlapping_apart}
use Rattle.pair_paths.specs.declared.MovingEdge.{MovingEdge}
use Rattle.pair_paths.specs.declared.MovingFace.{MovingFace}
use Rattle.pair_paths.specs.declared.Frame.{Frame}
use Rattle.pair_paths.specs.Bounds.{AreBoxes}
use Rattle.pair_paths.specs.FaceBoxes.{IsFaceBoxIn}
use Rattle.pair_paths.specs.Pairing.{have_a_vertex_in_common}
use Rattle.pair_paths.proofs.NearFaces.{near_faces_make_all}
use Rattle.pair_candidates.specs.Told.{one_or_none, LeavesOut, told_with, told_at, told_among, up_to, IsFull}

pub and_false : (a : Bool) → (a && false) ≡ false
and_false true = refl
and_false false = refl

-- a pair that has no vertex in common does what its test does
pub where_apart : (shared does : Bool) → shared ≡ false → (not shared && does) ≡ does
where_apart shared does e = ap (λ z. not z && does) e

module _ {Told : Type 0} (test : MovingEdge → MovingFace → Bool) (what : MovingEdge → MovingFace → Told) where
  -- nothing is told of a face of which the test is false
  pub untold : (e : MovingEdge) (f : MovingFace) → test e f ≡ false → one_or_none (told_with test what e (Some f)) ≡ []
  untold e f off =
      ap (λ b. one_or_none (cond (not (have_a_vertex_in_common e f) && b) (Some (what e f)) None)) off
      ∙ ap (λ b. one_or_none (cond b (Some (what e f)) None)) (and_false (not (have_a_vertex_in_common e f)))

  -- nor of one that has an end of the edge
  pub shared_untold : (e : MovingEdge) (f : MovingFace) → have_a_vertex_in_common e f ≡ true → one_or_none (told_with test what e (Some f)) ≡ []
  shared_untold e f h = ap (λ b. one_or_none (cond (not b && test e f) (Some (what e f)) None)) h

  -- so what is told of those that are near is what is told of all
  pub near_tell_all : (frame : Frame) (e : MovingEdge) (faces : List MovingFace) (m : LabelledBoxes) (at : Extent) (near : List ℕ) → AreBoxes (IsFaceBoxIn frame) faces m → LeavesOut test frame e at → near ≡ overlapping_apart m at e.a e.b
      → told_at test what e faces near ≡ told_among test what e faces
  near_tell_all frame e faces m at near boxes out is =
      near_faces_make_all frame e (λ o. one_or_none (told_with test what e o)) faces m at boxes refl
      (λ f its held off. untold e f (out f its held off))
      (shared_untold e)
      near is

-- ---- a scan that ends early
pub full_enough : {X : Type 0} (most : Option ℕ) (found rest all : List X) → IsFull (length found) most → found ++ rest ≡ all → up_to most found ≡ up_to most all
full_enough None found rest all full is = absurd full
full_enough (Some n) found rest all full is = sym (take-append-le n found rest full) ∙ ap (take n) is
