-- The ranks of the live vertices, in order, are the numbers from 1, and no two are the same.
use Rattle.std.proofs.Common.{◌≡◌, ℕ, ◌+◌, ◌<◌, true, T, List, [], ◌∷◌, map, IsSome, is_some, refl, sym, ap, ◌∙◌, arith, zero-add, inl, inr}
use Rattle.std.specs.Prelude.{nat_le}
use Rattle.std.specs.List.{enumerate_from}
use Rattle.std.specs.Ordering.{nat_cmp}
use Rattle.std.specs.FinMap as finite
use Rattle.std.specs.FinMap.{get-entries, entries_sorted}
use Rattle.std.specs.FinMap.Entries.{find, is_sorted, below_all}
use Rattle.std.proofs.lemmas.Bool.{cases_lt, le-leb, ltb-true}
use Rattle.mesh_base.specs.Mesh.{Mesh, IsLiveVertex}
use Rattle.mesh_base.proofs.Ordered.{entries-of_sorted}
use Rattle.mesh_base.proofs.WalkSteps.{both_of, less_true}
use Rattle.mesh_shape.proofs.Lists.{sorted_numbers}
use Rattle.obj_text.specs.Written.{rank, points_in_order}
use Rattle.obj_text.specs.Laws.{KeepsOrder}
use Rattle.obj_text.proofs.Renumbered.{keys_up_to, rises_at, none_up_to}

module _ {X : Type 0} where
  abbrev keys : List (ℕ × X) → List ℕ
  keys es = map (λ e. e.0) es

  -- behind one entry more, each has one rank more
  one_more : (n : ℕ) (e : ℕ × X) (es rest : List (ℕ × X)) → T (below_all nat_cmp e.0 rest) → map (λ v. n + keys_up_to (e ∷ es) v) (keys rest) ≡ map (λ v. (n + 1) + keys_up_to es v) (keys rest)
  one_more n e es [] h = refl
  one_more n e es (x ∷ rest) h =
      let parts = both_of _ _ h in
      let less : e.0 < x.0 = ltb-true _ _ (less_true e.0 x.0 parts.0) in
      let up : nat_le e.0 x.0 ≡ true = le-leb _ _ (omega arith) in
      let here : n + keys_up_to (e ∷ es) x.0 ≡ (n + 1) + keys_up_to es x.0 = rw up (omega arith) in
      ap (λ k. k ∷ map (λ v. n + keys_up_to (e ∷ es) v) (keys rest)) here ∙ ap (λ ks. ((n + 1) + keys_up_to es x.0) ∷ ks) (one_more n e es rest parts.1)

  ranks_count : (n : ℕ) (es : List (ℕ × X)) → T (is_sorted nat_cmp es) → map (λ v. n + keys_up_to es v) (keys es) ≡ map (λ e. e.0) (enumerate_from (n + 1) (map (λ e. e.1) es))
  ranks_count n [] s = refl
  ranks_count n (e ∷ es) s =
      let parts = both_of (below_all nat_cmp e.0 es) (is_sorted nat_cmp es) s in
      let up : nat_le e.0 e.0 ≡ true = le-leb _ _ (omega arith) in
      let none = none_up_to e.0 es parts.0 in
      let first : n + keys_up_to (e ∷ es) e.0 ≡ n + 1 = rw up (omega arith) in
      ap (λ k. k ∷ map (λ v. n + keys_up_to (e ∷ es) v) (keys es)) first ∙ ap (λ ks. (n + 1) ∷ ks) (one_more n e es es parts.0 ∙ ranks_count (n + 1) es parts.1)

pub keeps_order_lem : KeepsOrder
keeps_order_lem scale m =
    let es = finite.entries m.points in
    let counted : map (λ v. keys_up_to es v) (keys es) ≡ map (λ e. e.0) (enumerate_from 1 (points_in_order m)) = simp zero-add at (ranks_count 0 es (entries_sorted m.points)) in
    ap (λ l. map (λ e. e.0) l) (entries-of_sorted (enumerate_from 1 (points_in_order m)) (sorted_numbers 1 (points_in_order m))) ∙ sym counted

-- no two live vertices have one rank
pub rank_once : (m : Mesh) (u v : ℕ) → IsLiveVertex m u → IsLiveVertex m v → rank m u ≡ rank m v → u ≡ v
rank_once m u v live-u live-v same = elim (cases_lt u v) [
  | inl lt ↦ let less = rises_at (finite.entries m.points) u v lt (live_found v live-v) in absurd (omega arith)
  | inr ge ↦ elim (cases_lt v u) [
    | inl gt ↦ let less = rises_at (finite.entries m.points) v u gt (live_found u live-u) in absurd (omega arith)
    | inr le ↦ omega arith
  ]
]
  where
    live_found : (v : ℕ) → IsLiveVertex m v → IsSome (find nat_cmp v (finite.entries m.points))
    live_found v live = ap is_some (sym (get-entries m.points v)) ∙ live
