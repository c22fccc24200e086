-- The answer to the last question serves each box that stands in the one that was asked for.
use Rattle.std.proofs.Common.{◌≡◌, Bool, true, false, ◌&&◌, ℤ, ◌≤ℤ◌, int_le, T, List, refl, sym, ap, subst, ◌∙◌, arith}
use Rattle.std.specs.Prelude.{Result, Ok, Err, OnOk}
use Rattle.std.proofs.lemmas.Bool.{and_parts}
use Rattle.std.proofs.lemmas.Int.{ints}
use Rattle.grid_base.specs.declared.Extent.{Extent}
use Rattle.grid_base.specs.Extents.{overlaps, meet_along}
use Rattle.box_tree.specs.Overlapping.{LabelledBoxes}
use Rattle.pair_paths.specs.declared.Frame.{Frame}
use Rattle.pair_paths.specs.declared.MovingFace.{MovingFace}
use Rattle.pair_paths.specs.Bounds.{AreBoxes}
use Rattle.pair_paths.specs.FaceBoxes.{IsFaceBoxIn}
use Rattle.pair_candidates.specs.Asked.{IsAround}

true_of : (b : Bool) → T b → b ≡ true
true_of true t = refl
true_of false t = absurd t

both : (a b : Bool) → a ≡ true → b ≡ true → (a && b) ≡ true
both a b h i = ap (λ x. x && b) h ∙ i

most_of : (a b : ℤ) → int_le a b ≡ true → a ≤ℤ b
most_of a b h = record { le = subst T (sym h) tt }

-- what is at most a is at most what a is at most
up : (a b c : ℤ) → int_le a b ≡ true → b ≤ℤ c → int_le a c ≡ true
up a b c h i = let h' = most_of a b h in let r : a ≤ℤ c = omega (arith, ints) in true_of (int_le a c) r.le

down : (a b c : ℤ) → a ≤ℤ b → int_le b c ≡ true → int_le a c ≡ true
down a b c h i = let i' = most_of b c i in let r : a ≤ℤ c = omega (arith, ints) in true_of (int_le a c) r.le

along : (low high at_low at_high low' high' : ℤ) → low' ≤ℤ at_low → at_high ≤ℤ high' → meet_along low high at_low at_high ≡ true → meet_along low high low' high' ≡ true
along low high at_low at_high low' high' h i m =
    let p = and_parts (int_le low at_high) (int_le at_low high) m in
    both (int_le low high') (int_le low' high) (up low at_high high' p.0 i) (down low' at_low high h p.1)

-- a box that meets the inner one meets the outer one
pub meets_outer : (box inner outer : Extent) → IsAround outer inner → overlaps box inner ≡ true → overlaps box outer ≡ true
meets_outer box inner outer h m =
    let x = meet_along box.low.x box.high.x inner.low.x inner.high.x in
    let y = meet_along box.low.y box.high.y inner.low.y inner.high.y in
    let z = meet_along box.low.z box.high.z inner.low.z inner.high.z in
    let p = and_parts (x && y) z m in
    let q = and_parts x y p.0 in
    let x' = along box.low.x box.high.x inner.low.x inner.high.x outer.low.x outer.high.x h.low.x h.high.x q.0 in
    let y' = along box.low.y box.high.y inner.low.y inner.high.y outer.low.y outer.high.y h.low.y h.high.y q.1 in
    let z' = along box.low.z box.high.z inner.low.z inner.high.z outer.low.z outer.high.z h.low.z h.high.z p.1 in
    both _ _ (both _ _ x' y') z'

-- what follows where an answer is Ok
pub on_ok : {A E : Type 0} (r : Result A E) {P Q : Type 0} → (P → Q) → OnOk r P → OnOk r Q
on_ok (Ok x) f h = f h
on_ok (Err e) f h = h

-- boxes that stay are boxes of the same faces
pub boxes_stay : (faces : List MovingFace) (before after : Frame) (m n : LabelledBoxes) → after ≡ before → n ≡ m → AreBoxes (IsFaceBoxIn before) faces m → AreBoxes (IsFaceBoxIn after) faces n
boxes_stay faces before after m n frame boxes h =
    subst (λ f. AreBoxes (IsFaceBoxIn f) faces n) (sym frame) (subst (AreBoxes (IsFaceBoxIn before) faces) (sym boxes) h)
