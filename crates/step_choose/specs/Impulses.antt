-- Impulse passes on the asked shifts. `meets` is a test that tells whether five positions meet.
use Rattle.std.specs.Prelude.{◌≡◌, ℕ, zero, suc, ◌≤◌, ◌==◌, ◌&&◌, Bool, [], length, IsTrue}
use Rattle.std.specs.List.{find, list_all, range_with_len}
use Rattle.std.proofs.Common.{Option}
use Rattle.grid_base.specs.declared.Positions.{Positions}
use Rattle.mesh_base.specs.Mesh.{Mesh}
use Rattle.mesh_base.specs.Shifts.{Shifts, end_in_box}
use Rattle.mesh_base.specs.Failing.{failing}
use Rattle.pair_scan.specs.Named.{failing_pairs}
use Rattle.step_impulse.specs.Passes.{after_pass}

-- whether all pairs pass when each vertex goes from its point by its shift
abbrev pub all_pass : (Positions → Bool) → Mesh → Shifts → ℕ → Bool
all_pass meets m shifts depth = length (failing meets m shifts depth) == 0

-- all pairs pass
abbrev pub NoneFails : (Positions → Bool) → Mesh → ℕ → Shifts → Type 0
NoneFails meets m depth shifts = failing meets m shifts depth ≡ []

-- the asked shifts after so many passes, each over the pairs that fail before it
unfoldable pub after_passes : (Positions → Bool) → Mesh → Shifts → ℕ → ℕ → Shifts
after_passes meets m asked depth zero = asked
after_passes meets m asked depth (suc passes) =
    let shifts = after_passes meets m asked depth passes in
    after_pass m (failing_pairs meets m shifts depth) shifts

-- whether all pairs pass after so many passes, and no pass up to them leaves the box
unfoldable pub passes_serve : (Positions → Bool) → Mesh → Shifts → ℕ → ℕ → Bool
passes_serve meets m asked depth passes =
    all_pass meets m (after_passes meets m asked depth passes) depth
    && list_all (λ q. end_in_box m (after_passes meets m asked depth q)) (range_with_len 1 passes)

-- the fewest passes, from 1 to the most, that serve
unfoldable pub fewest_passes : (Positions → Bool) → Mesh → Shifts → ℕ → ℕ → Option ℕ
fewest_passes meets m asked depth most =
    find (passes_serve meets m asked depth) (range_with_len 1 most)

-- so many passes serve: all pairs pass after them, and no pass up to them leaves the box
pub record PassesServe (meets : Positions → Bool) (m : Mesh) (asked : Shifts)
    (depth passes : ℕ) : Type 0 where
  pub none_fails : NoneFails meets m depth (after_passes meets m asked depth passes)
  pub in_box : (q : ℕ) → 1 ≤ q → q ≤ passes →
      IsTrue (end_in_box m (after_passes meets m asked depth q))
