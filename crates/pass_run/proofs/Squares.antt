-- Squares of lengths are not negative.
use Rattle.std.proofs.Common.{◌≡◌, ℕ, ◌*◌, ◌≤ℤ◌, ℤ, pos, negsuc, ◌+ℤ◌, ◌*ℤ◌, unsigned_abs, refl, sym, subst, ap, ◌∙◌, arith}
use Rattle.std.proofs.lemmas.Int.{ints}
use Rattle.grid_base.specs.Triples.{Triple}
use Rattle.edit_zip.specs.Zip.{square}

pub square_is : (a : ℤ) → a *ℤ a ≡ pos (unsigned_abs a * unsigned_abs a)
square_is (pos n) = refl
square_is (negsuc n) = refl

sum_is : (x y z : ℕ) → pos 0 ≤ℤ (pos x +ℤ pos y +ℤ pos z)
sum_is x y z = omega (arith, ints)

pub square_not_negative : (t : Triple) → pos 0 ≤ℤ square t
square_not_negative t =
    let P : ℤ → Type 0 = λ n. pos 0 ≤ℤ n in
    subst P (sym (ap (λ n. n +ℤ t.y *ℤ t.y +ℤ t.z *ℤ t.z) (square_is t.x) ∙ ap (λ n. pos (unsigned_abs t.x * unsigned_abs t.x) +ℤ n +ℤ t.z *ℤ t.z) (square_is t.y) ∙ ap (λ n. pos (unsigned_abs t.x * unsigned_abs t.x) +ℤ pos (unsigned_abs t.y * unsigned_abs t.y) +ℤ n) (square_is t.z)))
    (sum_is (unsigned_abs t.x * unsigned_abs t.x) (unsigned_abs t.y * unsigned_abs t.y) (unsigned_abs t.z * unsigned_abs t.z))
