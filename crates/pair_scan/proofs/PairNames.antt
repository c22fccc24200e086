-- The pairs of a mesh are those of their names.
use Rattle.std.proofs.Common.{◌≡◌, ℕ, Bool, not, List, [], ◌∷◌, map, true, refl, ap}
use Rattle.std.specs.Option.{unwrap_or}
use Rattle.std.specs.List.{AllByRecursion}
use Rattle.grid_base.specs.declared.Positions.{Positions}
use Rattle.mesh_base.specs.Mesh.{Mesh, HasCorners}
use Rattle.mesh_base.specs.Pairs.{Pair, IsPair, pairs}
use Rattle.mesh_base.specs.Failing.{failing, pair_passes}
use Rattle.mesh_base.specs.Shifts.{Shifts, moved_by}
use Rattle.mesh_base.proofs.ListedPairs.{listed_pairs, all_filtered, all_weaker}
use Rattle.pair_scan.specs.Named.{no_corners, pair_named, pairs_named, failing_pairs}

pub named_again : (m : Mesh) (p : Pair) → HasCorners m p.name.face p.corners → pair_named m p.name ≡ p
named_again m p h = ap (λ o. record { name = p.name; corners = unwrap_or o no_corners }) h

pub all_named_again : (m : Mesh) (ps : List Pair) → AllByRecursion (IsPair m) ps → pairs_named m (map (λ p. p.name) ps) ≡ ps
all_named_again m [] h = refl
all_named_again m (p ∷ ps) h = λ i. named_again m p (h.0).face i ∷ all_named_again m ps h.1 i

-- each of the failing pairs is a pair
pub failing_are_pairs : (meets : Positions → Bool) (m : Mesh) (by : Shifts) (depth : ℕ) → AllByRecursion (IsPair m) (failing_pairs meets m by depth)
failing_are_pairs meets m by depth =
    let fails : Pair → Bool = λ p. not (pair_passes meets depth (moved_by m by) p) in
    all_filtered (IsPair m) fails (pairs m) (all_weaker (IsPair m) (λ p. fails p ≡ true → IsPair m p) (pairs m) (λ p is e. is) (listed_pairs m))

-- the pairs of the failing names are the failing pairs
pub failing_named : (meets : Positions → Bool) (m : Mesh) (by : Shifts) (depth : ℕ) → pairs_named m (failing meets m by depth) ≡ failing_pairs meets m by depth
failing_named meets m by depth = all_named_again m (failing_pairs meets m by depth) (failing_are_pairs meets m by depth)
