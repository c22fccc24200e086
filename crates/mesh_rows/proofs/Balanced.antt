-- A mesh of which each side of a face is run as often one way as the other is closed.
use Rattle.std.proofs.Common.{◌≡◌, ◌⊎◌, ℕ, zero, suc, ◌<◌, ◌==◌, ◌&&◌, ◌||◌, Bool, true, false, cond, List, [], ◌∷◌, Some, None, map, refl, sym, ap, subst, ◌∙◌, inl, inr, ⊎_elim, eqb-true, arith}
use Rattle.std.specs.List.{AllByRecursion}
use Rattle.std.specs.Ordering.{nat_cmp, eq_by_cmp}
use Rattle.std.specs.Cmp.{nat_cmp_total}
use Rattle.std.specs.FinMap as finite
use Rattle.std.specs.FinMap.{FinMap, get-from_entries}
use Rattle.std.specs.FinMap.Entries.{find}
use Rattle.mesh_base.specs.declared.ids.Corners.{Corners}
use Rattle.mesh_base.specs.declared.limits.Scale.{Scale}
use Rattle.mesh_base.specs.Mesh.{Mesh}
use Rattle.mesh_base.specs.Sides.{follows, runs, IsClosed}
use Rattle.mesh_base.proofs.Listed.{running_face}
use Rattle.mesh_base.proofs.Tests.{and_first, and_second, or_either}
use Rattle.mesh_shape.proofs.Lists.{none_of}
use Rattle.mesh_rows.specs.declared.rows.FaceRow.{FaceRow}
use Rattle.mesh_rows.specs.declared.rows.MeshRows.{MeshRows}
use Rattle.mesh_rows.specs.Rows.{face_entry, mesh_of_rows}
use Rattle.mesh_rows.specs.Making.{of_all_rows}
use Rattle.mesh_rows.specs.Faults.{side_fault, sides_fault, balance_fault, made_fault}
use Rattle.mesh_rows.proofs.Parts.{balanced_test}
use Rattle.mesh_rows.proofs.MadeRows.{no_balance_fault, faces_are}

module _ (m : Mesh) where
  -- each side of the corners is run as often one way as the other
  abbrev IsEven : Corners → Type 0
  IsEven c = (u v : ℕ) → follows c u v ≡ true → runs m u v ≡ runs m v u

  even_side : (u v : ℕ) → side_fault m u v ≡ None → runs m u v ≡ runs m v u
  even_side u v h = eqb-true (runs m u v) (runs m v u) (balanced_test _ _ h)

  at_ends : (x y u v : ℕ) → (x == u && y == v) ≡ true → runs m x y ≡ runs m y x → runs m u v ≡ runs m v u
  at_ends x y u v ends even =
      let from : x ≡ u = eqb-true x u (and_first _ _ ends) in
      let to : y ≡ v = eqb-true y v (and_second (x == u) _ ends) in
      subst (λ w. runs m u w ≡ runs m w u) to (subst (λ w. runs m w y ≡ runs m y w) from even)

  even_corners : (c : Corners) → sides_fault m c ≡ None → IsEven c
  even_corners c h u v runs_so =
      let two = none_of _ _ h in
      let three = none_of _ _ two.1 in
      ⊎_elim
      (λ one. ⊎_elim
      (λ first. at_ends c.first c.second u v first (even_side c.first c.second two.0))
      (λ second. at_ends c.second c.third u v second (even_side c.second c.third three.0))
      (or_either (c.first == u && c.second == v) (c.second == u && c.third == v) one))
      (λ third. at_ends c.third c.first u v third (even_side c.third c.first three.1))
      (or_either ((c.first == u && c.second == v) || (c.second == u && c.third == v)) (c.third == u && c.first == v) runs_so)

  all_even : (rows : List FaceRow) → balance_fault m rows ≡ None → AllByRecursion (λ e. IsEven e.1) (map face_entry rows)
  all_even [] h = tt
  all_even (row ∷ rows) h =
      let two = none_of _ _ h in
      (even_corners row.corners two.0, all_even rows two.1)

  -- what holds of each holds of the one that is found
  found_even : (es : List (ℕ × Corners)) (f : ℕ) (c : Corners) → AllByRecursion (λ e. IsEven e.1) es → find nat_cmp f es ≡ Some c → IsEven c
  found_even [] f c all at = cc
  found_even (e ∷ es) f c all at = by_key (found_even es f c all.1) (eq_by_cmp nat_cmp f e.0) at
    where
      by_key : (find nat_cmp f es ≡ Some c → IsEven c) → (b : Bool) → cond b (Some e.1) (find nat_cmp f es) ≡ Some c → IsEven c
      by_key later true is = let same : e.1 ≡ c = cc in subst IsEven same all.0
      by_key later false is = later is

  some_or_none : (n : ℕ) → (n ≡ 0) ⊎ (0 < n)
  some_or_none zero = inl refl
  some_or_none (suc n) = inr (omega arith)

  closed_by : (es : List (ℕ × Corners)) → m.faces ≡ finite.from_entries es → AllByRecursion (λ e. IsEven e.1) es → IsClosed m
  closed_by es are all u v = ⊎_elim
      (λ none. ⊎_elim (λ back. none ∙ sym back) (λ some. sym (even v u some)) (some_or_none (runs m v u)))
      (λ some. even u v some) (some_or_none (runs m u v))
    where
      even : (u v : ℕ) → 0 < runs m u v → runs m u v ≡ runs m v u
      even u v some =
          let face = running_face m u v some in
          let at = sym (get-from_entries nat_cmp_total es (face.0).0) ∙ ap (λ n. finite.get n (face.0).0) (sym are) ∙ face.2 in
          found_even es (face.0).0 (face.0).1 all at u v face.1

-- only the faces are of account
closed_along : (m n : Mesh) → m.faces ≡ n.faces → IsClosed m → IsClosed n
closed_along m n same closed u v =
    let P : FinMap nat_cmp Corners → Type 0 = λ faces. runs (record m { faces = faces }) u v ≡ runs (record m { faces = faces }) v u in
    subst P same (closed u v)

pub closed_rows : (scale : Scale) (rows : MeshRows) → made_fault scale rows ≡ None → IsClosed (mesh_of_rows scale rows)
closed_rows scale rows none =
    let m = of_all_rows scale rows in
    closed_along m (mesh_of_rows scale rows) (faces_are scale rows none) (closed_by m (map face_entry rows.faces) (faces_are scale rows none) (all_even m rows.faces (no_balance_fault scale rows none)))
