-- The volume over a list of corners, and points in a list.
use Rattle.std.proofs.Common.{◌≡◌, ◌⊎◌, ⊎_elim, inl, inr, ℕ, zero, suc, ◌+◌, ◌*◌, ◌≤◌, ℤ, pos, ◌+ℤ◌, unsigned_abs, List, [], ◌∷◌, ◌++◌, length, map, Some, refl, ap, sym, ◌∙◌, arith}
use Rattle.std.specs.Prelude.{slice_get}
use Rattle.std.proofs.lemmas.Int.{ints}
use Rattle.std.proofs.Math.Nat.{suc-mul}
use Rattle.std.specs.Map.{keys_of}
use Rattle.std.specs.FinMap as finite
use Rattle.grid_base.specs.declared.TheConstants.{FACES_MAX}
use Rattle.grid_base.specs.declared.Point.{Point}
use Rattle.mesh_base.specs.declared.ids.Corners.{Corners}
use Rattle.mesh_base.specs.Mesh.{Mesh, IsSound}
use Rattle.mesh_base.specs.Placements.{Placement, rest_positions, point_of}
use Rattle.mesh_measure.specs.Volume.{face_volume, face_sum, volume6}
use Rattle.mesh_measure.proofs.VolumeSteps.{few_ids}
use Rattle.track_run.specs.Surface.{each_corners}
use Rattle.track_run.specs.Places.{ArePlaced}

-- ---- points
the_same : (x y : Point) → Some x ≡ Some y → x ≡ y
the_same x y e = cc

got_pushed : (xs : List Point) (x : Point) (i : ℕ) (q : Point) → slice_get (xs ++ x ∷ []) i ≡ Some q → (slice_get xs i ≡ Some q) ⊎ ((i ≡ length xs) × (q ≡ x))
got_pushed [] x zero q e = inr (refl, sym (the_same x q e))
got_pushed [] x (suc i) q e = absurd cc
got_pushed (y ∷ ys) x zero q e = inl e
got_pushed (y ∷ ys) x (suc i) q e = ⊎_elim (λ h. inl h) (λ h. inr (ap suc h.0, h.1)) (got_pushed ys x i q e)

pub placed_pushed : (m : Mesh) (points : List Point) (p : Point) (last : ℕ) → length points ≡ last → p ≡ point_of m last → ArePlaced m points → ArePlaced m (points ++ p ∷ [])
placed_pushed m points p last long at placed v q e = ⊎_elim (placed v q) (λ h. h.1 ∙ at ∙ ap (point_of m) (sym (h.0 ∙ long))) (got_pushed points p v q e)

pub none_placed : (m : Mesh) → ArePlaced m []
none_placed m v p e = absurd cc

-- ---- the sum over a list of corners
abbrev pub corners_sum : Placement → List Corners → ℤ
corners_sum at [] = pos 0
corners_sum at (c ∷ cs) = face_volume at c +ℤ corners_sum at cs

listed_sum : (at : Placement) (es : List (ℕ × Corners)) → corners_sum at (map (λ e. e.1) es) ≡ face_sum (face_volume at) es
listed_sum at [] = refl
listed_sum at (e ∷ es) = ap (λ s. face_volume at e.1 +ℤ s) (listed_sum at es)

plus_zero : (s : ℤ) → pos 0 +ℤ s ≡ s
plus_zero s = omega (arith, ints)

pub all_listed : (m : Mesh) (faces : List Corners) → faces ≡ each_corners m → pos 0 +ℤ corners_sum (rest_positions m) faces ≡ volume6 m
all_listed m faces all = plus_zero (corners_sum (rest_positions m) faces) ∙ ap (corners_sum (rest_positions m)) all ∙ listed_sum (rest_positions m) (finite.entries m.faces)

as_many : (es : List (ℕ × Corners)) → length (map (λ e. e.1) es) ≡ length (keys_of es)
as_many [] = refl
as_many (e ∷ es) = ap suc (as_many es)

pub few_listed : (m : Mesh) (faces : List Corners) → IsSound m → faces ≡ each_corners m → length faces ≤ FACES_MAX
few_listed m faces sound all =
    let same : length faces ≡ length (finite.keys m.faces) = ap length all ∙ as_many (finite.entries m.faces) in
    omega (arith, same, few_ids m sound)

regroup : (s p r : ℤ) → (s +ℤ p) +ℤ r ≡ s +ℤ (p +ℤ r)
regroup s p r = omega (arith, ints)

pub told_more : (at : Placement) (s p total : ℤ) (left next : List Corners) (d : Corners) → left ≡ d ∷ next → p ≡ face_volume at d → s +ℤ corners_sum at left ≡ total → (s +ℤ p) +ℤ corners_sum at next ≡ total
told_more at s p total left next d step is told =
    regroup s p (corners_sum at next) ∙ ap (λ q. s +ℤ (q +ℤ corners_sum at next)) is ∙ ap (λ l. s +ℤ corners_sum at l) (sym step) ∙ told

pub told_all : (at : Placement) (s total : ℤ) (left : List Corners) → left ≡ [] → s +ℤ corners_sum at left ≡ total → s ≡ total
told_all at s total left end told = plus_none s ∙ ap (λ l. s +ℤ corners_sum at l) (sym end) ∙ told
  where
    plus_none : (s : ℤ) → s ≡ s +ℤ pos 0
    plus_none s = omega (arith, ints)

part_more : (k most : ℕ) → suc k * most ≡ most + k * most
part_more k most = omega (arith, suc-mul k most)

size-sum : (a b : ℤ) → unsigned_abs (a +ℤ b) ≤ unsigned_abs a + unsigned_abs b
size-sum a b = omega (arith, ints)

pub within_more : (s p : ℤ) (left next : List Corners) (d : Corners) (all most : ℕ) → left ≡ d ∷ next → unsigned_abs s + length left * most ≤ all → unsigned_abs p ≤ most → unsigned_abs (s +ℤ p) + length next * most ≤ all
within_more s p left next d all most step h small =
    let whole : length left * most ≡ most + length next * most = ap (λ l. length l * most) step ∙ part_more (length next) most in
    let sum = size-sum s p in
    omega (arith, whole, sum, h, small)
