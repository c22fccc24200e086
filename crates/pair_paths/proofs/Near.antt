-- What the near things of a list make is what all make.
use Rattle.std.proofs.Common.{◌≡◌, ℕ, zero, suc, ◌+◌, Bool, true, false, cond, List, [], ◌∷◌, ◌++◌, length, Option, Some, None, refl, sym, ap, ◌∙◌, arith}
use Rattle.std.specs.Prelude.{slice_get}
use Rattle.std.specs.List.{filter, flat_map, AllByRecursion}
use Rattle.std.specs.Ordering.{nat_cmp}
use Rattle.std.specs.Map.{keys_of}
use Rattle.std.specs.FinMap as finite
use Rattle.mesh_base.proofs.ListedPairs.{all_weaker}
use Rattle.pair_paths.specs.Bounds.{AreBoxes}
use Rattle.pair_paths.proofs.Faces.{found_entries}
use Rattle.pair_paths.proofs.Numbered.{numbers, keys_are_numbers, same_some}

-- ---- what a test leaves out makes nothing
left_out : {V Y : Type 0} (made : ℕ → List Y) (q : V → Bool) (es : List (ℕ × V)) → AllByRecursion (λ x. q x.1 ≡ false → made x.0 ≡ []) es → flat_map made (keys_of (filter (λ x. q x.1) es)) ≡ flat_map made (keys_of es)
left_out made q [] none = refl
left_out {V} {Y} made q (x ∷ es) none = by_test (left_out made q es none.1) (q x.1) refl
  where
    by_test : flat_map made (keys_of (filter (λ y. q y.1) es)) ≡ flat_map made (keys_of es) → (b : Bool) → q x.1 ≡ b
        → flat_map made (keys_of (cond b (x ∷ filter (λ y. q y.1) es) (filter (λ y. q y.1) es))) ≡ made x.0 ++ flat_map made (keys_of es)
    by_test rest true t = ap (λ zs. made x.0 ++ zs) rest
    by_test rest false t = rest ∙ sym (ap (λ zs. zs ++ flat_map made (keys_of es)) (none.0 t))

-- ---- all of the numbers
one_more : (i k : ℕ) → i + suc k ≡ i + 1 + k
one_more i k = omega arith

at_start : (i : ℕ) → i ≡ i + zero
at_start i = omega arith

all_numbers : {X Y : Type 0} (made : Option X → List Y) (all xs : List X) (i : ℕ) → ((k : ℕ) → slice_get all (i + k) ≡ slice_get xs k)
    → flat_map (λ k. made (slice_get all k)) (numbers i (length xs)) ≡ flat_map (λ x. made (Some x)) xs
all_numbers made all [] i h = refl
all_numbers made all (x ∷ xs) i h =
    let rest = all_numbers made all xs (i + 1) (λ k. ap (slice_get all) (sym (one_more i k)) ∙ h (suc k)) in
    let here : slice_get all i ≡ Some x = ap (slice_get all) (at_start i) ∙ h zero in
    ap (λ o. made o ++ flat_map (λ k. made (slice_get all k)) (numbers (i + 1) (length xs))) here ∙ ap (λ zs. made (Some x) ++ zs) rest

-- ---- where a thing whose box is not picked makes nothing, what the picked ones make is what all make
module _ {X Box Y : Type 0} (holds : X → Box → Type 0) (made : Option X → List Y) (xs : List X) (m : finite.FinMap nat_cmp Box) (picked : Box → Bool) (boxes : AreBoxes holds xs m) (no_thing : made None ≡ [])
    (off : (x : X) (box : Box) → holds x box → picked box ≡ false → made (Some x) ≡ []) where
  none_made : (k : ℕ) (v : Box) → finite.get m k ≡ Some v → picked v ≡ false → made (slice_get xs k) ≡ []
  none_made k v found left = by_answer (slice_get xs k) refl
    where
      by_answer : (o : Option X) → slice_get xs k ≡ o → made o ≡ []
      by_answer None t = no_thing
      by_answer (Some x) t =
          let its = boxes.boxed k x t in
          let same : its.0 ≡ v = same_some its.0 v (sym its.1.0 ∙ found) in
          off x its.0 its.1.1 (ap picked same ∙ left)

  pub picked_make_all : (near : List ℕ) → near ≡ keys_of (filter (λ y. picked y.1) (finite.entries m)) → flat_map (λ k. made (slice_get xs k)) near ≡ flat_map (λ x. made (Some x)) xs
  picked_make_all near is =
      let each : ℕ → List Y = λ k. made (slice_get xs k) in
      ap (flat_map each) is
      ∙ left_out each picked (finite.entries m) (all_weaker (λ y. finite.get m y.0 ≡ Some y.1) (λ y. picked y.1 ≡ false → each y.0 ≡ []) (finite.entries m) (λ y found left. none_made y.0 y.1 found left) (found_entries m))
      ∙ ap (flat_map each) (sym (keys_are_numbers holds xs m boxes))
      ∙ all_numbers made xs xs 0 (λ k. ap (slice_get xs) (from_zero k))
    where
      from_zero : (k : ℕ) → 0 + k ≡ k
      from_zero k = omega arith
