-- Pairs that stay, and a search that leaves out what is never found.
use Rattle.std.proofs.Common.{◌≡◌, ℕ, Bool, true, false, cond, ◌||◌, ◌&&◌, not, ℤ, pos, ◌-ℤ◌, List, [], ◌∷◌, Some, refl, sym, ap, ◌∙◌, arith}
use Rattle.std.proofs.lemmas.Int.{ints}
use Rattle.std.specs.List.{find, filter, AllByRecursion}
use Rattle.grid_base.specs.declared.Positions.{Positions}
use Rattle.grid_base.specs.SeparationTests.{is_zero, passes, are_separated, move_together}

none_left : (z : ℤ) → z -ℤ z ≡ pos 0
none_left z = omega (arith, ints)

both_stay : (a b : ℤ) → is_zero ((b -ℤ b) -ℤ (a -ℤ a)) ≡ true
both_stay a b = rw (none_left a, none_left b) refl

true_and : (a b : Bool) → a ≡ true → b ≡ true → (a && b) ≡ true
true_and true true e f = refl
true_and true false e f = f
true_and false b e f = e

or_true : (a b : Bool) → b ≡ true → (a || b) ≡ true
or_true true b e = refl
or_true false b e = e

three : (a b c : Bool) → a ≡ true → b ≡ true → c ≡ true → (a && b && c) ≡ true
three a b c e f g = true_and (a && b) c (true_and a b e f) g

-- five positions that stay move together
pub still_moves_together : (f : Positions) → move_together f f ≡ true
still_moves_together f =
    let one : (a b c d e g : ℤ) → (is_zero ((b -ℤ b) -ℤ (a -ℤ a)) && is_zero ((d -ℤ d) -ℤ (c -ℤ c)) && is_zero ((g -ℤ g) -ℤ (e -ℤ e))) ≡ true
    = λ a b c d e g. three _ _ _ (both_stay a b) (both_stay c d) (both_stay e g) in
    true_and _ _ (three _ _ _ (one f.a.x f.b.x f.a.y f.b.y f.a.z f.b.z) (one f.a.x f.c.x f.a.y f.c.y f.a.z f.c.z) (one f.a.x f.d.x f.a.y f.d.y f.a.z f.d.z)) (one f.a.x f.e.x f.a.y f.e.y f.a.z f.e.z)

-- a pair that stays and does not meet passes, to any depth
pub still_passes : (meets : Positions → Bool) (depth : ℕ) (f : Positions) → meets f ≡ false → passes meets depth f f ≡ true
still_passes meets depth f apart = or_true (are_separated depth f f) _ (true_and _ _ (still_moves_together f) (ap not apart))

-- The first that is found among those that are kept is the first of all, where nothing that is left out would be found.
pub find-filter : {X : Type 0} (keep test : X → Bool) (xs : List X) → AllByRecursion (λ x. keep x ≡ false → test x ≡ false) xs → find test (filter keep xs) ≡ find test xs
find-filter keep test [] h = refl
find-filter keep test (x ∷ xs) h = by_cases (find-filter keep test xs h.1) (keep x) refl
  where
    by_cases : find test (filter keep xs) ≡ find test xs → (b : Bool) → keep x ≡ b → find test (cond b (x ∷ filter keep xs) (filter keep xs)) ≡ cond (test x) (Some x) (find test xs)
    by_cases rest true e = ap (λ o. cond (test x) (Some x) o) rest
    by_cases rest false e = rest ∙ ap (λ b. cond b (Some x) (find test xs)) (sym (h.0 e))
