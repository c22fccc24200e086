-- How many vertices and faces a mesh has after some are made and dropped.
use Rattle.std.proofs.Common.{◌≡◌, ◌≢◌, ℕ, zero, suc, ◌+◌, ◌-◌, ◌<◌, ◌≤◌, true, false, cond, List, [], ◌∷◌, length, Option, Some, None, IsSome, is_some, refl, sym, ap, ◌∙◌, arith}
use Rattle.std.specs.Ordering.{nat_cmp}
use Rattle.std.specs.Cmp.{nat_cmp_total}
use Rattle.std.specs.FinMap as finite
use Rattle.std.specs.FinMap.{FinMap, len-insert, len-remove, empty_of_len, get-empty}
use Rattle.grid_base.specs.declared.Point.{Point}
use Rattle.mesh_base.specs.declared.ids.Corners.{Corners}
use Rattle.mesh_base.specs.Mesh.{Mesh, IsMesh, IsLiveFace}
use Rattle.mesh_base.specs.Changes.{with_face}
use Rattle.mesh_base.proofs.Finite.{live_but_removed}
use Rattle.edit_base.specs.Edges.{without_faces, with_faces}
use Rattle.edit_acts.proofs.Flow.{AreBelow, not_live, below-with}

-- ---- one change
pub len-insert_le : {X : Type 0} (m : FinMap nat_cmp X) (k : ℕ) (v : X) → finite.len (finite.insert m k v) ≤ finite.len m + 1
len-insert_le m k v = rw (len-insert nat_cmp_total m k v) (elim (finite.contains_key m k) as (λ b. cond b (finite.len m) (finite.len m + 1) ≤ finite.len m + 1) [ true ↦ omega arith | false ↦ omega arith ])

module _ {X : Type 0} (m : FinMap nat_cmp X) (k : ℕ) where
  pub len-with_new : (v : X) → finite.get m k ≡ None → finite.len (finite.insert m k v) ≡ finite.len m + 1
  len-with_new v none = len-insert nat_cmp_total m k v ∙ ap (λ b. cond b (finite.len m) (finite.len m + 1)) (ap is_some none)

  some_there : IsSome (finite.get m k) → 0 < finite.len m
  some_there there = by_count (finite.len m) refl
    where
      by_count : (n : ℕ) → finite.len m ≡ n → 0 < n
      by_count zero e = let none : finite.get m k ≡ None = ap (λ (n : FinMap nat_cmp X). finite.get n k) (empty_of_len m e) ∙ get-empty nat_cmp k in absurd (not_there (finite.get m k) there none)
        where
          not_there : (o : Option X) → IsSome o → o ≡ None → ⊥
          not_there (Some x) s n = cc
          not_there None s n = cc
      by_count (suc n) e = omega arith

  pub len-without : IsSome (finite.get m k) → finite.len (finite.remove m k) + 1 ≡ finite.len m
  len-without there =
      let some = some_there there in
      let e : finite.len (finite.remove m k) ≡ finite.len m - 1 = len-remove nat_cmp_total m k ∙ ap (λ b. cond b (finite.len m - 1) (finite.len m)) there in
      omega (arith, some, e)

-- ---- several
pub len-with_faces : (m : Mesh) (cs : List Corners) → AreBelow m → finite.len (with_faces m cs).faces ≡ finite.len m.faces + length cs
len-with_faces m [] below = omega arith
len-with_faces m (c ∷ cs) below =
    let rest = len-with_faces (with_face m c) cs (below-with m c below) in
    let one = len-with_new m.faces m.next_face c (not_live m below) in
    omega (arith, rest, one)

-- two different live faces are dropped
pub len-without_two : (m : Mesh) (f g : ℕ) → IsLiveFace m f → IsLiveFace m g → f ≢ g → finite.len (without_faces m (f ∷ g ∷ [])).faces + 2 ≡ finite.len m.faces
len-without_two m f g f_live g_live apart =
    let one = len-without m.faces f f_live in
    let two = len-without (finite.remove m.faces f) g (live_but_removed m.faces f g (λ e. apart (sym e)) g_live) in
    omega (arith, one, two)

-- the id that the next vertex gets is no vertex
pub next_is_no_vertex : (m : Mesh) → IsMesh m → finite.get m.points m.next_vertex ≡ None
next_is_no_vertex m mesh = by_answer (finite.get m.points m.next_vertex) refl
  where
    by_answer : (o : Option Point) → finite.get m.points m.next_vertex ≡ o → o ≡ None
    by_answer (Some p) e = let h : m.next_vertex < m.next_vertex = (mesh.vertex_ids m.next_vertex (ap is_some e)).1 in absurd (omega arith)
    by_answer None e = refl
