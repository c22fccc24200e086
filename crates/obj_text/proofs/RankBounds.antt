-- Ranks of live vertices are from 1 to the number of live vertices.
use Rattle.std.proofs.Common.{◌≡◌, ℕ, ◌<◌, ◌≤◌, false, cond, List, [], ◌∷◌, length, map, Some, IsSome, is_some, sym, ap, ◌∙◌, arith, inl, inr}
use Rattle.std.specs.Prelude.{nat_le}
use Rattle.std.specs.List.{filter}
use Rattle.std.specs.Ordering.{nat_cmp, eq_by_cmp}
use Rattle.std.specs.Cmp.{unsigned_tied}
use Rattle.std.specs.FinMap as finite
use Rattle.std.specs.FinMap.{get-entries, len-entries}
use Rattle.std.specs.FinMap.Entries.{find}
use Rattle.std.proofs.lemmas.Bool.{cases_Bool, ne_eqb, leb-false, false≢true}
use Rattle.std.proofs.lemmas.List.{length-map}
use Rattle.std.proofs.lemmas.List.Sums.{length-filter, count_by-le-length}
use Rattle.grid_base.specs.declared.TheConstants.{VERTICES_MAX}
use Rattle.mesh_base.specs.Mesh.{Mesh, IsLiveVertex, IsSound}
use Rattle.obj_text.specs.Written.{rank}
use Rattle.mesh_base.proofs.MeshLaws.{few_live_vertices}

module _ {X : Type 0} (v : ℕ) where
  -- the look-up goes on after an entry of a larger id
  behind_larger : (e : ℕ × X) (es : List (ℕ × X)) → v < e.0 → find nat_cmp v (e ∷ es) ≡ find nat_cmp v es
  behind_larger e es lt = let apart : eq_by_cmp nat_cmp v e.0 ≡ false = unsigned_tied v e.0 ∙ ne_eqb v e.0 (omega arith) in ap (λ b. cond b (Some e.1) (find nat_cmp v es)) apart

  some_up_to : (es : List (ℕ × X)) → IsSome (find nat_cmp v es) → 1 ≤ length (filter (λ u. nat_le u v) (map (λ e. e.0) es))
  some_up_to [] h = absurd (false≢true h)
  some_up_to (e ∷ es) h = elim (cases_Bool (nat_le e.0 v)) [
    | inl up ↦ rw up (omega arith)
    | inr beyond ↦ rw beyond (some_up_to es (ap is_some (sym (behind_larger e es (leb-false e.0 v beyond))) ∙ h))
  ]

pub rank_is_some : (m : Mesh) (v : ℕ) → IsLiveVertex m v → 1 ≤ rank m v
rank_is_some m v live = some_up_to v (finite.entries m.points) (ap is_some (sym (get-entries m.points v)) ∙ live)

pub rank_is_few : (m : Mesh) (v : ℕ) → IsSound m → rank m v ≤ VERTICES_MAX
rank_is_few m v sound =
    let keys = finite.keys m.points in
    omega (arith, length-filter (λ u. nat_le u v) keys, count_by-le-length (λ u. nat_le u v) keys, length-map (finite.entries m.points) (λ e. e.0), len-entries m.points, few_live_vertices m sound)
