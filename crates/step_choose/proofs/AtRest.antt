-- Where nothing moves in a clear mesh, no pair fails.
use Rattle.std.proofs.Common.{◌≡◌, ℕ, Bool, true, cond, not, List, [], ◌∷◌, map, refl, sym, ap, subst, ◌∙◌}
use Rattle.std.specs.List.{filter, AllByRecursion}
use Rattle.grid_base.specs.declared.Positions.{Positions}
use Rattle.grid_base.specs.Triples.{plus}
use Rattle.grid_base.specs.SeparationTests.{passes}
use Rattle.grid_base.proofs.Reflected.{of_passes}
use Rattle.grid_base.proofs.SeparationLaws.{Passes-still}
use Rattle.grid_decided.specs.Decided.{meets_exactly, meets_exactly-is_exact}
use Rattle.mesh_base.specs.Failing.{pair_passes}
use Rattle.mesh_base.specs.Mesh.{Mesh}
use Rattle.mesh_base.specs.Pairs.{Pair, IsPair, pairs}
use Rattle.mesh_base.specs.Placements.{origin, rest_positions, positions, IsClearMesh}
use Rattle.mesh_base.specs.Shifts.{Shifts, moved_by, shift_at}
use Rattle.mesh_base.proofs.ListedPairs.{all_weaker, listed_pairs}
use Rattle.mesh_base.proofs.Moves.{same_positions, plus-origin}
use Rattle.step_choose.specs.Choice.{NoneFails}

-- nothing is kept of a list in which all pass
none_kept : {X Y : Type 0} (f : X → Y) (test : X → Bool) (xs : List X) → AllByRecursion (λ x. test x ≡ true) xs → map f (filter (λ x. not (test x)) xs) ≡ []
none_kept f test [] h = refl
none_kept f test (x ∷ xs) h = ap (λ b. map f (cond (not b) (x ∷ filter (λ y. not (test y)) xs) (filter (λ y. not (test y)) xs))) h.0 ∙ none_kept f test xs h.1

pub none_fails_at_rest : (m : Mesh) (shifts : Shifts) (depth : ℕ) → IsClearMesh m → ((v : ℕ) → shift_at shifts v ≡ origin) → NoneFails meets_exactly m depth shifts
none_fails_at_rest m shifts depth clear rest =
    none_kept (λ (p : Pair). p.name) (pair_passes meets_exactly depth (moved_by m shifts)) (pairs m)
    (all_weaker (IsPair m) (λ p. pair_passes meets_exactly depth (moved_by m shifts) p ≡ true) (pairs m) passes_here (listed_pairs m))
  where
    same : (p : Pair) → positions (rest_positions m) p ≡ positions (moved_by m shifts).end p
    same p = same_positions (rest_positions m) (moved_by m shifts).end p (λ v. sym (ap (plus (rest_positions m v)) (rest v) ∙ plus-origin (rest_positions m v)))

    passes_here : (p : Pair) → IsPair m p → pair_passes meets_exactly depth (moved_by m shifts) p ≡ true
    passes_here p is =
        let f : Positions = positions (rest_positions m) p in
        let still : passes meets_exactly depth f f ≡ true = of_passes meets_exactly meets_exactly-is_exact depth f f (Passes-still depth f (clear p is)) in
        subst (λ end. passes meets_exactly depth f end ≡ true) (same p) still
