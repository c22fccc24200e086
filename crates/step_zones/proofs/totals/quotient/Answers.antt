use mir.Val.{Fits}
use Rattle.std.proofs.Common.{ℕ, refl, ◌≡◌, ◌≤◌, ℤ, pos, int_div, unsigned_abs, to_z, of_z, FitsSigned, ap, sym, subst, ◌∙◌, arith}
use Rattle.std.specs.Int.{w32}
use mir.Syntax.{w128}
use Rattle.std.proofs.lemmas.Int.{ints, to_z-of_z, fits_signed_from_abs}
use Rattle.grid_base.specs.declared.TheConstants.{SHIFT_MAX}
use Rattle.step_zones.proofs.Means.{quotient_size}
use Rattle.step_zones.proofs.totals.quotient.Goals as goal

fits_wide : (x : ℤ) → unsigned_abs x ≤ SHIFT_MAX → to_z w128 (of_z w128 x) ≡ x
fits_wide x h = omega (arith, ints)

fits_narrow : (x : ℤ) → unsigned_abs x ≤ SHIFT_MAX → to_z w32 (of_z w32 x) ≡ x
fits_narrow x h = omega (arith, ints)

-- the quotient, as it is computed
made : (a b q : ℤ) → q ≡ int_div a b → unsigned_abs q ≤ SHIFT_MAX → (a' b' : ℤ) → a' ≡ a → b' ≡ b → to_z w128 (of_z w128 (int_div a' b')) ≡ q
made a b q e h a' b' f g = (λ i. to_z w128 (of_z w128 (int_div (f i) (g i)))) ∙ ap (λ z. to_z w128 (of_z w128 z)) (sym e) ∙ fits_wide q h

positive : (n : ℕ) (r : ℤ) → Fits w32 n → r ≡ pos n → to_z w128 (of_z w128 r) ≡ pos n
positive n r h e = ap (λ z. to_z w128 (of_z w128 z)) e ∙ whole n h
  where
    whole : (k : ℕ) → Fits w32 k → to_z w128 (of_z w128 (pos k)) ≡ pos k
    whole k h = omega (arith, ints)

narrow : (x : ℤ) → unsigned_abs x ≤ SHIFT_MAX → FitsSigned w32 x
narrow x h = fits_signed_from_abs w32 x (omega arith)

pub overflow_cast-result : goal.overflow_cast-result
overflow_cast-result c =
    let q : ℤ = int_div c.args.sum (pos c.args.count) in
    let small : unsigned_abs q ≤ SHIFT_MAX = quotient_size c.args.sum c.args.count SHIFT_MAX c.requires.fits in
    subst (FitsSigned w32) (sym (made c.args.sum (pos c.args.count) q refl small _ _ (to_z-of_z w128 c.args.sum c.ranges.sum) (positive c.args.count c.from.result c.ranges.count c.from.ensures))) (narrow q small)

pub returns-clause-value : goal.returns-clause-value
returns-clause-value c =
    let q : ℤ = int_div c.args.sum (pos c.args.count) in
    let small : unsigned_abs q ≤ SHIFT_MAX = quotient_size c.args.sum c.args.count SHIFT_MAX c.requires.fits in
    ap (λ z. to_z w32 (of_z w32 z)) (made c.args.sum (pos c.args.count) q refl small _ _ (to_z-of_z w128 c.args.sum c.ranges.sum) (positive c.args.count c.from.result c.ranges.count c.from.ensures)) ∙ fits_narrow q small

pub returns-clause-within : goal.returns-clause-within
returns-clause-within c = subst (λ z. unsigned_abs z ≤ SHIFT_MAX) (sym (returns-clause-value c)) (quotient_size c.args.sum c.args.count SHIFT_MAX c.requires.fits)
