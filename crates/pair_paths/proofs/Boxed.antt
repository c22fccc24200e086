-- Boxes of things, in their order.
use Rattle.std.proofs.Common.{◌≡◌, ◌∙◌, ⊎_elim, ℕ, zero, suc, ◌+◌, ◌<◌, List, [], ◌∷◌, ◌++◌, length, get_or, Some, refl, sym, ap, subst, arith, length-append}
use Rattle.std.specs.Prelude.{Result, IfOk, Ok, Err, slice_get}
use Rattle.std.specs.Ordering.{nat_cmp}
use Rattle.std.specs.FinMap as finite
use Rattle.std.proofs.lemmas.Bool.{cases_lt}
use Rattle.std.proofs.lemmas.Option.{slice_get_within, slice_get_past, slice_get_read}
use Rattle.pair_paths.specs.Bounds.{AreBoxes, AreBoxesOf}
use Rattle.pair_paths.proofs.Numbered.{same_some}

-- ---- a list with one more
module _ {A : Type 0} where
  kept : (xs : List A) (y : A) (k : ℕ) → k < length xs → slice_get (xs ++ y ∷ []) k ≡ slice_get xs k
  kept [] y k lt = absurd (omega arith)
  kept (x ∷ xs) y zero lt = refl
  kept (x ∷ xs) y (suc k) lt = kept xs y k (omega arith)

  last : (xs : List A) (y : A) → slice_get (xs ++ y ∷ []) (length xs) ≡ Some y
  last [] y = refl
  last (x ∷ xs) y = last xs y

  one_longer : (xs : List A) (y : A) → length (xs ++ y ∷ []) ≡ length xs + 1
  one_longer xs y = length-append xs (y ∷ [])

-- ---- the loop that makes the boxes
-- the boxes of the first i things
pub record AreBoxedTo {X Box : Type 0} (holds : X → Box → Type 0) (xs : List X) (i : ℕ) (boxes : List Box) : Type 0 where
  pub as_long : length boxes ≡ i
  pub boxed : (k : ℕ) (x : X) → k < i → slice_get xs k ≡ Some x → (box : Box) × ((slice_get boxes k ≡ Some box) × holds x box)

pub boxed_more : {X Box : Type 0} (holds : X → Box → Type 0) (xs : List X) (i : ℕ) (d : X) (boxes more : List Box) (box : Box) → i < length xs → d ≡ get_or xs i d → holds d box → more ≡ boxes ++ box ∷ []
    → AreBoxedTo holds xs i boxes → AreBoxedTo holds xs (i + 1) more
boxed_more holds xs i d boxes more box inside item held is before = record {
  as_long = ap length is ∙ one_longer boxes box ∙ ap (λ (n : ℕ). n + 1) before.as_long;
  boxed = λ k x lt there. ⊎_elim
      (λ below.
      let old = before.boxed k x below there in
      let within : k < length boxes = omega (arith, before.as_long) in
      (old.0, (ap (λ bs. slice_get bs k) is ∙ kept boxes box k within ∙ old.1.0, old.1.1)))
      (λ past.
      let at : k ≡ i = omega arith in
      let here : slice_get xs i ≡ Some d = slice_get_read xs (length xs) i d refl inside item in
      let same : d ≡ x = same_some d x (sym here ∙ ap (slice_get xs) (sym at) ∙ there) in
      (box, (ap (slice_get more) (at ∙ sym before.as_long) ∙ ap (λ bs. slice_get bs (length boxes)) is ∙ last boxes box, subst (λ y. holds y box) same held)))
      (cases_lt k i);
}

pub all_boxed : {X Box : Type 0} (holds : X → Box → Type 0) (xs : List X) (i : ℕ) (boxes : List Box) → i ≡ length xs → AreBoxedTo holds xs i boxes → AreBoxesOf holds xs boxes
all_boxed holds xs i boxes e h = record {
  as_long = h.as_long ∙ e;
  boxed = λ k x there. h.boxed k x (let within : k < length xs = slice_get_within xs k x there in omega arith) there;
}

-- a map that has these boxes by their places
pub boxes_by_place : {X Box : Type 0} (holds : X → Box → Type 0) (xs : List X) (boxes : List Box) (m : finite.FinMap nat_cmp Box) → AreBoxesOf holds xs boxes → ((i : ℕ) → finite.get m i ≡ slice_get boxes i) → AreBoxes holds xs m
boxes_by_place holds xs boxes m h at = record {
  boxed = λ k x there. let its = h.boxed k x there in (its.0, (at k ∙ its.1.0, its.1.1));
  no_others = λ k le. at k ∙ slice_get_past boxes k (omega (arith, h.as_long));
}

-- what follows from an answer that is Ok
pub if_ok : {A E : Type 0} (r : Result A E) {P Q : A → Type 0} → ((x : A) → P x → Q x) → IfOk r P → IfOk r Q
if_ok (Ok x) f h = f x h
if_ok (Err e) f h = h
