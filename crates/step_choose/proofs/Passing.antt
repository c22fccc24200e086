-- Where all pairs pass, none meets at any fraction.
use Rattle.std.proofs.Common.{◌≡◌, ℕ, true, List, [], ◌∷◌, length, suc, ◌==◌, refl, arith}
use Rattle.std.proofs.lemmas.Bool.{eqb-true}
use Rattle.grid_decided.specs.Decided.{meets_exactly}
use Rattle.mesh_base.specs.Mesh.{Mesh, IsSound}
use Rattle.mesh_base.specs.Pairs.{pairs}
use Rattle.mesh_base.specs.Placements.{IsClearAlong}
use Rattle.mesh_base.specs.Shifts.{Shifts, moved_by}
use Rattle.mesh_base.specs.Failing.{failing}
use Rattle.pair_scan.proofs.Fails.{clear_along}
use Rattle.step_choose.specs.Choice.{all_pass}

pub no_length : {X : Type 0} (xs : List X) → (length xs == 0) ≡ true → xs ≡ []
no_length [] e = refl
no_length (x ∷ xs) e = absurd (let none : suc (length xs) ≡ 0 = eqb-true (suc (length xs)) 0 e in omega arith)

pub all_pass_is_clear : (m : Mesh) (shifts : Shifts) (depth : ℕ) → IsSound m → all_pass meets_exactly m shifts depth ≡ true → IsClearAlong m (moved_by m shifts)
all_pass_is_clear m shifts depth sound e = clear_along m shifts depth sound (no_length (failing meets_exactly m shifts depth) e)
