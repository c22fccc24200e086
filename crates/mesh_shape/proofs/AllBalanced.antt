-- Where no pair of vertices is unbalanced, all numbers are balanced.
use Rattle.std.proofs.Common.{◌≡◌, ℕ, zero, suc, ◌+◌, ◌<◌, ◌≤◌, ◌==◌, ◌&&◌, ◌||◌, not, Bool, true, false, cond, ◌∷◌, [], None, map, option_map, refl, sym, subst, ◌∙◌, ◌⊎◌, ⊎_elim, arith}
use Rattle.std.specs.List.{find, flat_map, range_with_len}
use Rattle.std.proofs.lemmas.List.Folds.{find-append}
use Rattle.std.proofs.lemmas.List.Sums.{sum_by-cons}
use Rattle.std.proofs.lemmas.Bool.{eqb-true}
use Rattle.std.proofs.lemmas.Bool.Decides.{nat_tests}
use Rattle.mesh_base.specs.declared.ids.Corners.{Corners}
use Rattle.mesh_base.specs.Sides.{follows}
use Rattle.mesh_base.specs.Changes.{corners_of}
use Rattle.mesh_base.specs.Given.{Faces}
use Rattle.mesh_base.proofs.Tests.{and_first, and_second, or_either}
use Rattle.mesh_shape.specs.Shape.{is_vertex, no_vertex_from, bad_corner, runs_in, first_unbalanced}
use Rattle.mesh_shape.proofs.Lists.{none_of, none_mapped, all_vertices, between}
use Rattle.mesh_shape.proofs.Firsts.{split, row_passed}

-- ---- what a search passes over, where nothing is found
rows_passed : (test : ℕ × ℕ → Bool) (a b m k n : ℕ) → k ≤ a → a < k + n → 1 ≤ b → b < 1 + m → find test (flat_map (λ u. map (λ v. (u, v)) (range_with_len 1 m)) (range_with_len k n)) ≡ None → test (a, b) ≡ false
rows_passed test a b m k zero low high low' high' h = absurd (omega arith)
rows_passed test a b m k (suc n) low high low' high' h =
    let parts = none_of (find test (map (λ v. (k, v)) (range_with_len 1 m))) _ (sym (find-append test (map (λ v. (k, v)) (range_with_len 1 m)) (flat_map (λ u. map (λ v. (u, v)) (range_with_len 1 m)) (range_with_len (k + 1) n))) ∙ h) in
    ⊎_elim
    (λ less. rows_passed test a b m (k + 1) n (omega arith) (omega arith) low' high' parts.1)
    (λ same. subst (λ j. test (j, b) ≡ false) same (row_passed test (λ v. (k, v)) 1 m b low' high' parts.0))
    (split k a low)

-- ---- faces run between vertices alone
ends_pass : (p : ℕ → Bool) (c : Corners) (u v : ℕ) → p c.first ≡ true → p c.second ≡ true → p c.third ≡ true → follows c u v ≡ true → (p u ≡ true) × (p v ≡ true)
ends_pass p c u v h1 h2 h3 e = ⊎_elim (λ two. ⊎_elim (at c.first c.second h1 h2) (at c.second c.third h2 h3)
    (or_either (c.first == u && c.second == v) _ two))
    (at c.third c.first h3 h1)
    (or_either ((c.first == u && c.second == v) || (c.second == u && c.third == v)) _ e)
  where
    at : (x y : ℕ) → p x ≡ true → p y ≡ true → (x == u && y == v) ≡ true → (p u ≡ true) × (p v ≡ true)
    at x y hx hy e = (subst (λ j. p j ≡ true) (eqb-true x u (and_first (x == u) _ e)) hx, subst (λ j. p j ≡ true) (eqb-true y v (and_second (x == u) _ e)) hy)

run_between : (n k : ℕ) (fs : Faces) (u v : ℕ) → no_vertex_from n k fs ≡ None → 0 < runs_in fs u v → (is_vertex n u ≡ true) × (is_vertex n v ≡ true)
run_between n k [] u v h some = absurd (omega arith)
run_between n k (f ∷ fs) u v h some =
    let parts = none_of (option_map (λ corner. (k, corner)) (bad_corner n (corners_of f))) (no_vertex_from n (k + 1) fs) h in
    let live = all_vertices n (corners_of f) (none_mapped _ _ parts.0) in
    by_test (run_between n (k + 1) fs u v parts.1) live (follows (corners_of f) u v) refl (subst (λ n. 0 < n) (sum_by-cons (λ g. cond {A = ℕ} (follows (corners_of g) u v) 1 0) f fs) some)
  where
    by_test : (0 < runs_in fs u v → (is_vertex n u ≡ true) × (is_vertex n v ≡ true)) → (is_vertex n (corners_of f).first ≡ true) × (is_vertex n (corners_of f).second ≡ true) × (is_vertex n (corners_of f).third ≡ true)
        → (b : Bool) → follows (corners_of f) u v ≡ b → 0 < cond {A = ℕ} b 1 0 + runs_in fs u v → (is_vertex n u ≡ true) × (is_vertex n v ≡ true)
    by_test rest live true e some = ends_pass (is_vertex n) (corners_of f) u v live.0 live.1 live.2 e
    by_test rest live false e some = rest (omega arith)

-- so between others all is balanced
only_vertices : (n : ℕ) (fs : Faces) (u v : ℕ) → no_vertex_from n 1 fs ≡ None → (is_vertex n u ≡ true → is_vertex n v ≡ true → runs_in fs u v ≡ runs_in fs v u) → runs_in fs u v ≡ runs_in fs v u
only_vertices n fs u v vertices h = by_counts (runs_in fs u v) (runs_in fs v u) refl refl
  where
    by_counts : (a b : ℕ) → runs_in fs u v ≡ a → runs_in fs v u ≡ b → runs_in fs u v ≡ runs_in fs v u
    by_counts zero zero e e' = e ∙ sym e'
    by_counts (suc a) b e e' = let ends = run_between n 1 fs u v vertices (omega (arith, e)) in h ends.0 ends.1
    by_counts zero (suc b) e e' = let ends = run_between n 1 fs v u vertices (omega (arith, e')) in h ends.1 ends.0

equal_counts : (a b : ℕ) → not (a == b) ≡ false → a ≡ b
equal_counts a b e = grind (arith, nat_tests)

-- faces of which no pair is unbalanced
pub all_balanced : (n : ℕ) (fs : Faces) → no_vertex_from n 1 fs ≡ None → first_unbalanced n fs ≡ None → (u v : ℕ) → runs_in fs u v ≡ runs_in fs v u
all_balanced n fs vertices none u v = only_vertices n fs u v vertices (λ hu hv.
    let first = between n u hu in
    let second = between n v hv in
    equal_counts (runs_in fs u v) (runs_in fs v u) (rows_passed (λ p. not (runs_in fs p.0 p.1 == runs_in fs p.1 p.0)) u v n 1 n first.0 (omega arith) second.0 (omega arith) none))
