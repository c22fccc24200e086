-- Earlier marks hold, and stand for the same meshes.
use Rattle.std.proofs.Common.{◌≡◌, ℕ, zero, suc, ◌+◌, ◌<◌, ◌≤◌, List, [], ◌∷◌, Some, length, take, slice_get, refl, sym, ap, subst, ◌∙◌, arith}
use Rattle.std.proofs.lemmas.List.{length-take, take_all}
use Rattle.std.proofs.lemmas.Option.{slice_get_within}
use Rattle.mesh_base.specs.Mesh.{Mesh}
use Rattle.mesh_base.specs.Kept.{BeginsWith, MarkHolds, StandsFor}
use Rattle.mesh_base.specs.declared.marks.Mark.{Mark}

take-take : {A : Type 0} (i j : ℕ) (xs : List A) → i ≤ j → take i (take j xs) ≡ take i xs
take-take zero j xs h = refl
take-take (suc i) zero xs h = absurd (omega arith)
take-take (suc i) (suc j) [] h = refl
take-take (suc i) (suc j) (x ∷ xs) h = ap (λ ys. x ∷ ys) (take-take i j xs (omega arith))

pub slice_get-take : {A : Type 0} (n i : ℕ) (xs : List A) → i < n → slice_get (take n xs) i ≡ slice_get xs i
slice_get-take zero i xs h = absurd (omega arith)
slice_get-take (suc n) i [] h = refl
slice_get-take (suc n) zero (x ∷ xs) h = refl
slice_get-take (suc n) (suc i) (x ∷ xs) h = slice_get-take n i xs (omega arith)

-- a list begins with itself
pub begins_itself : (kept : List Mesh) → BeginsWith kept kept
begins_itself kept = take_all (length kept) kept (omega arith)

pub fits : (new old : List Mesh) → BeginsWith new old → length old ≤ length new
fits new old h = omega (arith, length-take (length old) new, ap length h)

-- what begins with a list that begins with a third begins with the third
pub begins_along : (newest new old : List Mesh) → BeginsWith newest new → BeginsWith new old → BeginsWith newest old
begins_along newest new old h h' =
    sym (take-take (length old) (length new) newest (fits new old h')) ∙ ap (take (length old)) h ∙ h'

-- a mark stands for the same mesh where the list begins with the list before
pub stands_along : (new old : List Mesh) (mark : Mark) (m : Mesh) → BeginsWith new old → StandsFor old mark m → StandsFor new mark m
stands_along new old mark m h is =
    sym (slice_get-take (length old) mark.place new (slice_get_within old mark.place m is)) ∙ ap (λ kept. slice_get kept mark.place) h ∙ is

-- and it still holds
pub holds_along : (beyond : ℕ) (new old : List Mesh) (mark : Mark) → BeginsWith new old → MarkHolds beyond old mark → MarkHolds beyond new mark
holds_along beyond new old mark h is = record { kept_there = let e = fits new old h in omega (arith, is.kept_there); under_near = is.under_near }

-- a return leaves what was kept before the mark was made
pub begins_after_return : (returned newest old : List Mesh) (under : ℕ) → under ≡ length old → BeginsWith newest old → BeginsWith returned (take under newest) → BeginsWith returned old
begins_after_return returned newest old under e h h' =
    let front : take under newest ≡ old = ap (λ n. take n newest) e ∙ h in subst (λ kept. BeginsWith returned kept) front h'

-- where it leaves just those, what is kept is what was kept
pub kept_after_return : (returned newest old : List Mesh) (mark : Mark) (beyond : ℕ) → mark.under ≡ length old → mark.under ≡ mark.place + beyond →
    BeginsWith newest old → (mark.under ≡ mark.place + beyond → returned ≡ take mark.under newest) → returned ≡ old
kept_after_return returned newest old mark beyond e there h is = is there ∙ ap (λ n. take n newest) e ∙ h

-- a mark stands for one mesh
pub stands_for_one : (kept : List Mesh) (mark : Mark) (m n : Mesh) → StandsFor kept mark m → StandsFor kept mark n → m ≡ n
stands_for_one kept mark m n h h' = let e : Some m ≡ Some n = sym h ∙ h' in cc
