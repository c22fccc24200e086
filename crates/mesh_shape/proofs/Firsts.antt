-- The first unbalanced pair has its smaller vertex first.
use Rattle.std.proofs.Common.{◌≡◌, ℕ, zero, suc, ◌+◌, ◌<◌, ◌≤◌, ◌==◌, not, Bool, true, false, cond, List, ◌∷◌, Option, Some, None, map, nat_lt, refl, sym, ap, subst, ◌∙◌, ◌⊎◌, ⊎_elim, arith}
use Rattle.std.specs.Option.{option_or}
use Rattle.std.specs.List.{filter, find, flat_map, range_with_len}
use Rattle.std.proofs.lemmas.List.Folds.{find-append}
use Rattle.std.proofs.lemmas.Bool.Decides.{nat_tests}
use Rattle.mesh_base.specs.Given.{Faces}
use Rattle.mesh_base.specs.Pairs.{id_pairs}
use Rattle.mesh_shape.specs.Shape.{runs_in, numbers_to, first_unbalanced}

pub split : (k b : ℕ) → k ≤ b → (k < b) ⊎ (k ≡ b)
split k b h = grind arith

-- ---- a row, of which those that are not looked at do not pass
same_row : {X : Type 0} (test : X → Bool) (g : ℕ → X) (chosen : ℕ → Bool) (k m : ℕ) → ((v : ℕ) → k ≤ v → v < k + m → chosen v ≡ false → test (g v) ≡ false)
    → find test (map g (filter chosen (range_with_len k m))) ≡ find test (map g (range_with_len k m))
same_row test g chosen k zero off = refl
same_row test g chosen k (suc m) off = by_choice (same_row test g chosen (k + 1) m (λ v low high e. off v (omega arith) (omega arith) e)) (chosen k) refl
  where
    by_choice : find test (map g (filter chosen (range_with_len (k + 1) m))) ≡ find test (map g (range_with_len (k + 1) m))
        → (b : Bool) → chosen k ≡ b → find test (map g (cond b (k ∷ filter chosen (range_with_len (k + 1) m)) (filter chosen (range_with_len (k + 1) m)))) ≡ cond (test (g k)) (Some (g k)) (find test (map g (range_with_len (k + 1) m)))
    by_choice later true e = ap (λ o. cond (test (g k)) (Some (g k)) o) later
    by_choice later false e = later ∙ sym (ap (λ t. cond t (Some (g k)) (find test (map g (range_with_len (k + 1) m)))) (off k (omega arith) (omega arith) e))

-- what is passed over, where nothing is found
pub row_passed : {X : Type 0} (test : X → Bool) (g : ℕ → X) (k m b : ℕ) → k ≤ b → b < k + m → find test (map g (range_with_len k m)) ≡ None → test (g b) ≡ false
row_passed test g k zero b low high none = absurd (omega arith)
row_passed test g k (suc m) b low high none = by_test (λ less rest. row_passed test g (k + 1) m b (omega arith) (omega arith) rest) (test (g k)) refl none
  where
    by_test : (k < b → find test (map g (range_with_len (k + 1) m)) ≡ None → test (g b) ≡ false) → (t : Bool) → test (g k) ≡ t → cond t (Some (g k)) (find test (map g (range_with_len (k + 1) m))) ≡ None → test (g b) ≡ false
    by_test later true e h = cc
    by_test later false e h = ⊎_elim (λ less. later less h) (λ same. subst (λ j. test (g j) ≡ false) same e) (split k b low)

module _ (n : ℕ) (test : ℕ × ℕ → Bool) (alone : (v : ℕ) → test (v, v) ≡ false) (turned : (u v : ℕ) → test (u, v) ≡ test (v, u)) where
  abbrev ids : List ℕ
  ids = range_with_len 1 n

  abbrev rising : ℕ → List (ℕ × ℕ)
  rising u = map (λ v. (u, v)) (filter (λ v. nat_lt u v) ids)

  abbrev whole : ℕ → List (ℕ × ℕ)
  whole u = map (λ v. (u, v)) ids

  not_above : (u v : ℕ) → nat_lt u v ≡ false → v ≤ u
  not_above u v h = grind (arith, nat_tests)

  -- from row k on, where no pair of the rows before passes
  rows_same : (k m : ℕ) → 1 ≤ k → k + m ≤ n + 1 → ((a b : ℕ) → 1 ≤ a → a < k → 1 ≤ b → b < 1 + n → test (a, b) ≡ false) → find test (flat_map rising (range_with_len k m)) ≡ find test (flat_map whole (range_with_len k m))
  rows_same k zero one within before = refl
  rows_same k (suc m) one within before =
      find-append test (rising k) (flat_map rising (range_with_len (k + 1) m))
      ∙ ap (λ o. option_or o (find test (flat_map rising (range_with_len (k + 1) m)))) row
      ∙ by_row (λ h. rows_same (k + 1) m (omega arith) (omega arith) h) (find test (whole k)) refl
      ∙ sym (find-append test (whole k) (flat_map whole (range_with_len (k + 1) m)))
    where
      off : (v : ℕ) → 1 ≤ v → v < 1 + n → nat_lt k v ≡ false → test (k, v) ≡ false
      off v low high e = ⊎_elim (λ less. turned k v ∙ before v k low less one (omega arith)) (λ same. subst (λ j. test (k, j) ≡ false) (sym same) (alone k)) (split v k (not_above k v e))

      row : find test (rising k) ≡ find test (whole k)
      row = same_row test (λ v. (k, v)) (λ v. nat_lt k v) 1 n off

      more : find test (whole k) ≡ None → (a b : ℕ) → 1 ≤ a → a < k + 1 → 1 ≤ b → b < 1 + n → test (a, b) ≡ false
      more none a b some less low high = ⊎_elim (λ earlier. before a b some earlier low high) (λ same. subst (λ j. test (j, b) ≡ false) (sym same) (row_passed test (λ v. (k, v)) 1 n b low high none)) (split a k (omega arith))

      by_row : (((a b : ℕ) → 1 ≤ a → a < k + 1 → 1 ≤ b → b < 1 + n → test (a, b) ≡ false) → find test (flat_map rising (range_with_len (k + 1) m)) ≡ find test (flat_map whole (range_with_len (k + 1) m)))
          → (o : Option (ℕ × ℕ)) → find test (whole k) ≡ o → option_or (find test (whole k)) (find test (flat_map rising (range_with_len (k + 1) m))) ≡ option_or (find test (whole k)) (find test (flat_map whole (range_with_len (k + 1) m)))
      by_row later (Some p) e = ap (λ o. option_or o (find test (flat_map rising (range_with_len (k + 1) m)))) e ∙ sym (ap (λ o. option_or o (find test (flat_map whole (range_with_len (k + 1) m)))) e)
      by_row later None e = ap (option_or (find test (whole k))) (later (more e))

  pub rows_alike : find test (flat_map rising ids) ≡ find test (flat_map whole ids)
  rows_alike = rows_same 1 n (omega arith) (omega arith) (λ a b some less low high. absurd (omega arith))

is_balanced : (a : ℕ) → not (a == a) ≡ false
is_balanced a = grind (arith, nat_tests)

either_way : (a b : ℕ) → not (a == b) ≡ not (b == a)
either_way a b = grind (arith, nat_tests)

pub first_pair : (n : ℕ) (fs : Faces) → find (λ p. not (runs_in fs p.0 p.1 == runs_in fs p.1 p.0)) (id_pairs (numbers_to n)) ≡ first_unbalanced n fs
first_pair n fs = rows_alike n (λ p. not (runs_in fs p.0 p.1 == runs_in fs p.1 p.0)) (λ v. is_balanced (runs_in fs v v)) (λ u v. either_way (runs_in fs u v) (runs_in fs v u))
