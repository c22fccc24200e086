-- Edges that are not near along an axis are too far apart.
use Rattle.std.proofs.Common.{◌≡◌, ℕ, ◌+◌, ◌*◌, ◌≤◌, ◌&&◌, Bool, true, false, ℤ, pos, negsuc, ◌+ℤ◌, ◌*ℤ◌, unsigned_abs, nat_le, int_le, refl, sym, ap, ◌∙◌, arith}
use Rattle.std.proofs.lemmas.Int.{ints}
use Rattle.std.proofs.lemmas.Bool.Decides.{nat_tests}
use Rattle.grid_base.specs.Triples.{Triple}
use Rattle.grid_base.specs.Points.{is_within}
use Rattle.edit_zip.specs.Zip.{square}
use Rattle.pass_run.specs.Candidates.{squared}

square_is : (a : ℤ) → a *ℤ a ≡ pos (unsigned_abs a * unsigned_abs a)
square_is (pos n) = refl
square_is (negsuc n) = refl

at_most : (x y z l : ℕ) → int_le (pos x +ℤ pos y +ℤ pos z) (pos l) ≡ true → x + y + z ≤ l
at_most x y z l e = omega (arith, ints)

below_square : (x l : ℕ) → x * x ≤ l * l → x ≤ l
below_square x l h = grind arith

axes : (a b c : ℤ) (l : ℕ) → int_le (a *ℤ a +ℤ b *ℤ b +ℤ c *ℤ c) (pos (l * l)) ≡ true → (unsigned_abs a ≤ l) × (unsigned_abs b ≤ l) × (unsigned_abs c ≤ l)
axes a b c l e =
    let x = unsigned_abs a in
    let y = unsigned_abs b in
    let z = unsigned_abs c in
    let all : x * x + y * y + z * z ≤ l * l = at_most (x * x) (y * y) (z * z) (l * l)
    (sym (ap (λ n. int_le (n +ℤ b *ℤ b +ℤ c *ℤ c) (pos (l * l))) (square_is a) ∙ ap (λ n. int_le (pos (x * x) +ℤ n +ℤ c *ℤ c) (pos (l * l))) (square_is b) ∙ ap (λ n. int_le (pos (x * x) +ℤ pos (y * y) +ℤ n) (pos (l * l))) (square_is c)) ∙ e) in
    (below_square x l (omega arith), below_square y l (omega arith), below_square z l (omega arith))

all_small : (a b c l : ℕ) → a ≤ l → b ≤ l → c ≤ l → (nat_le a l && nat_le b l && nat_le c l) ≡ true
all_small a b c l h i j = grind (arith, nat_tests)

-- what is further apart along an axis is further apart
pub far_apart : (t : Triple) (l : ℕ) → is_within l t ≡ false → int_le (square t) (squared l) ≡ false
far_apart t l off = by_test (int_le (square t) (squared l)) refl
  where
    by_test : (b : Bool) → int_le (square t) (squared l) ≡ b → b ≡ false
    by_test false e = refl
    by_test true e =
        let h = axes t.x t.y t.z l e in
        sym (all_small (unsigned_abs t.x) (unsigned_abs t.y) (unsigned_abs t.z) l h.0 h.1 h.2) ∙ off
