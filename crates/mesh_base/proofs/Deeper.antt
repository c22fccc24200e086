-- Where no pair fails, tested to some depth, none fails at a greater one.
use Rattle.std.proofs.Common.{◌≡◌, ℕ, ◌≤◌, Bool, true, false, cond, not, List, [], ◌∷◌, map, refl, ap, ◌∙◌}
use Rattle.std.specs.List.{filter}
use Rattle.grid_base.specs.declared.Positions.{Positions}
use Rattle.grid_base.proofs.Deeper.{passes_test_deeper}
use Rattle.mesh_base.specs.Mesh.{Mesh}
use Rattle.mesh_base.specs.Pairs.{Pair, pairs}
use Rattle.mesh_base.specs.Placements.{positions}
use Rattle.mesh_base.specs.Shifts.{Shifts, moved_by}
use Rattle.mesh_base.specs.Failing.{failing, pair_passes}

module _ {X Y : Type 0} (f : X → Y) (p q : X → Bool) (more : (x : X) → p x ≡ true → q x ≡ true) where
  none_left_out : (xs : List X) → map f (filter (λ x. not (p x)) xs) ≡ [] → map f (filter (λ x. not (q x)) xs) ≡ []
  none_left_out [] e = refl
  none_left_out (x ∷ xs) e = by_test (none_left_out xs) (p x) refl e
    where
      by_test : (map f (filter (λ y. not (p y)) xs) ≡ [] → map f (filter (λ y. not (q y)) xs) ≡ []) → (b : Bool) → p x ≡ b
          → map f (cond (not b) (x ∷ filter (λ y. not (p y)) xs) (filter (λ y. not (p y)) xs)) ≡ []
          → map f (cond (not (q x)) (x ∷ filter (λ y. not (q y)) xs) (filter (λ y. not (q y)) xs)) ≡ []
      by_test rest true t e = ap (λ b. map f (cond (not b) (x ∷ filter (λ y. not (q y)) xs) (filter (λ y. not (q y)) xs))) (more x t) ∙ rest e
      by_test rest false t e = absurd cc

pub none_fails_deeper : (meets : Positions → Bool) (m : Mesh) (shifts : Shifts) (depth deeper : ℕ) → depth ≤ deeper → failing meets m shifts depth ≡ [] → failing meets m shifts deeper ≡ []
none_fails_deeper meets m shifts depth deeper most none =
    none_left_out (λ (p : Pair). p.name) (pair_passes meets depth (moved_by m shifts)) (pair_passes meets deeper (moved_by m shifts))
    (λ p e. passes_test_deeper meets depth deeper (positions (moved_by m shifts).start p) (positions (moved_by m shifts).end p) most e)
    (pairs m) none
