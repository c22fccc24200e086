-- When ids of two lists are not all different.
use Rattle.std.proofs.Common.{◌≡◌, ℕ, true, false, ◌||◌, ◌++◌, List, [], ◌∷◌, refl, sym, ap, ◌∙◌}
use Rattle.std.proofs.Math.Bool.{or_assoc}
use Rattle.edit_base.specs.Classes.{is_one_of}
use Rattle.edit_zip.specs.Zip.{repeats, repeats_before}

repeats_along : (xs ys : List ℕ) → repeats (xs ++ ys) ≡ (repeats_before xs ys || repeats ys)
repeats_along [] ys = refl
repeats_along (x ∷ xs) ys =
    ap (λ b. is_one_of (xs ++ ys) x || b) (repeats_along xs ys) ∙ sym (or_assoc (is_one_of (xs ++ ys) x) (repeats_before xs ys) (repeats ys))

pub repeats_first : (xs ys : List ℕ) → repeats_before xs ys ≡ true → true ≡ repeats (xs ++ ys)
repeats_first xs ys h = sym (repeats_along xs ys ∙ ap (λ b. b || repeats ys) h)

pub repeats_second : (xs ys : List ℕ) → repeats_before xs ys ≡ false → repeats ys ≡ repeats (xs ++ ys)
repeats_second xs ys h = sym (repeats_along xs ys ∙ ap (λ b. b || repeats ys) h)
