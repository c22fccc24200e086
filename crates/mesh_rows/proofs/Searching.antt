-- The first of a list that passes, element by element.
use Rattle.std.specs.Prelude.{find}
use Rattle.std.proofs.Common.{◌≡◌, ℕ, zero, suc, ◌+◌, ◌≤◌, Bool, true, false, cond, List, [], ◌∷◌, Option, Some, None, length, drop, slice_get, refl, add-one, arith}
use Rattle.mesh_rows.specs.Search.{pick}

module _ {X : Type 0} (test : X → Bool) where
  here : (b : Bool) (y x : X) (rest : Option X) → cond b (Some y) None ≡ Some x → cond b (Some y) rest ≡ Some x
  here true y x rest h = h
  here false y x rest h = cc

  pub found_at : (xs : List X) (i : ℕ) (x : X) → pick test (slice_get xs i) ≡ Some x → find test (drop i xs) ≡ Some x
  found_at [] zero x h = h
  found_at [] (suc i) x h = h
  found_at (y ∷ ys) zero x h = here (test y) y x (find test ys) h
  found_at (y ∷ ys) (suc i) x h = found_at ys i x h

  gone : (b : Bool) (y : X) (rest : Option X) → cond b (Some y) None ≡ None → rest ≡ cond b (Some y) rest
  gone true y rest h = cc
  gone false y rest h = refl

  past : (xs : List X) (i : ℕ) → pick test (slice_get xs i) ≡ None → find test (drop (suc i) xs) ≡ find test (drop i xs)
  past [] zero h = refl
  past [] (suc i) h = refl
  past (y ∷ ys) zero h = gone (test y) y (find test ys) h
  past (y ∷ ys) (suc i) h = past ys i h

  pub found_past : (xs : List X) (i : ℕ) → pick test (slice_get xs i) ≡ None → find test (drop (i + 1) xs) ≡ find test (drop i xs)
  found_past xs i h = rw add-one (past xs i h)

  pub found_end : (xs : List X) (i : ℕ) → length xs ≤ i → find test (drop i xs) ≡ None
  found_end [] zero h = refl
  found_end [] (suc i) h = refl
  found_end (y ∷ ys) zero h = absurd (omega arith)
  found_end (y ∷ ys) (suc i) h = found_end ys i (omega arith)

  none_here : (b : Bool) (y : X) (rest : Option X) → cond b (Some y) rest ≡ None → (b ≡ false) × (rest ≡ None)
  none_here true y rest h = cc
  none_here false y rest h = (refl, h)

  -- where none passes, each fails
  pub none_passes : (xs : List X) (i : ℕ) (x : X) → find test xs ≡ None → slice_get xs i ≡ Some x → test x ≡ false
  none_passes [] i x h at = cc
  none_passes (y ∷ ys) zero x h at = let same : y ≡ x = cc in let no = (none_here (test y) y (find test ys) h).0 in cc
  none_passes (y ∷ ys) (suc i) x h at = none_passes ys i x (none_here (test y) y (find test ys) h).1 at
