-- The mesh that the rows of one with new ids make is that one.
use Rattle.std.proofs.Common.{◌≡◌, ℕ, suc, ◌+◌, ◌<◌, ◌==◌, Bool, true, false, cond, List, [], ◌∷◌, ◌++◌, length, map, drop, get_or, add-one, drop-cons, append_assoc, Option, None, Some, IsSome, is_some, refl, sym, ap, subst, ◌∙◌, inl, inr}
use Rattle.std.specs.List.{AllByRecursion, filter}
use Rattle.std.specs.Ordering.{nat_cmp}
use Rattle.std.specs.Cmp.{unsigned_tied, nat_cmp_total}
use Rattle.std.specs.FinMap as finite
use Rattle.std.specs.FinMap.{FinMap, get-entries, get-from_entries, entries_sorted, same_entries_map, same_map, nat_cmp-IsAntisymmetric}
use Rattle.std.specs.FinMap.Entries.{find}
use Rattle.std.proofs.lemmas.Bool.{cases_Bool, eqb-true, eq-eqb, false≢true}
use Rattle.grid_base.specs.declared.Point.{Point}
use Rattle.grid_base.specs.Points.{point_at}
use Rattle.grid_base.proofs.PointLaws.{point_at-position_of}
use Rattle.mesh_base.specs.declared.Corners.{Corners}
use Rattle.mesh_base.specs.declared.limits.Scale.TheVariants.{Large}
use Rattle.mesh_base.specs.Mesh.{Mesh, IsSound, is_solid}
use Rattle.mesh_base.specs.Placements.{position_or_origin}
use Rattle.mesh_base.proofs.Listed.{each_found}
use Rattle.mesh_base.proofs.ListedPairs.{all_filtered}
use Rattle.mesh_base.proofs.Ordered.{entries-of_sorted}
use Rattle.mesh_rows.specs.declared.MeshRows.{MeshRows}
use Rattle.mesh_rows.specs.declared.VertexRow.{VertexRow}
use Rattle.mesh_rows.specs.declared.FaceRow.{FaceRow}
use Rattle.mesh_rows.specs.Rows.{vertex_entry, face_entry, solid_entry, mesh_of_rows}
use Rattle.mesh_ids.specs.NewIds.{vertex_id, face_id, renamed, with_vertex_ids, with_face_ids}
use Rattle.mesh_rename.specs.Rows.{vertex_row, face_row, solid_ids}
use Rattle.mesh_ids.proofs.Taken.{same_entries, itself}

each_got : {X : Type 0} (entries : FinMap nat_cmp X) (es : List (ℕ × X)) → AllByRecursion (λ e. find nat_cmp e.0 (finite.entries entries) ≡ Some e.1) es → AllByRecursion (λ e. finite.get entries e.0 ≡ Some e.1) es
each_got entries [] h = tt
each_got entries (e ∷ es) h = (get-entries entries e.0 ∙ h.0, each_got entries es h.1)

got : {X : Type 0} (entries : FinMap nat_cmp X) → AllByRecursion (λ e. finite.get entries e.0 ≡ Some e.1) (finite.entries entries)
got entries = each_got entries (finite.entries entries) (each_found (finite.entries entries) (entries_sorted entries))

made_again : {X : Type 0} (entries : FinMap nat_cmp X) → finite.from_entries (finite.entries entries) ≡ entries
made_again entries = same_entries_map _ entries (entries-of_sorted (finite.entries entries) (entries_sorted entries))

module _ (m : Mesh) (id corner : ℕ → ℕ) where
  vertices_along : (es : List (ℕ × Point)) → AllByRecursion (λ e. finite.get m.points e.0 ≡ Some e.1) es → map vertex_entry (map (vertex_row m id) (map (λ e. e.0) es)) ≡ map (λ e. (id e.0, e.1)) es
  vertices_along [] h = refl
  vertices_along (e ∷ es) h =
      let here = ap (λ (o : Option Point). point_at (position_or_origin o)) h.0 ∙ point_at-position_of e.1 in
      let rest = vertices_along es h.1 in
      λ i. (id e.0, here i) ∷ rest i

  faces_along : (es : List (ℕ × Corners)) → AllByRecursion (λ e. finite.get m.faces e.0 ≡ Some e.1) es → map face_entry (map (face_row m id corner) (map (λ e. e.0) es)) ≡ map (λ e. (id e.0, renamed corner e.1)) es
  faces_along [] h = refl
  faces_along (e ∷ es) h = rw h.0 (ap (λ rest. (id e.0, renamed corner e.1) ∷ rest) (faces_along es h.1))

solid_entries : (id : ℕ → ℕ) (vs : List ℕ) → map solid_entry (map id vs) ≡ map (λ v. solid_entry (id v)) vs
solid_entries id [] = refl
solid_entries id (v ∷ vs) = ap (λ rest. solid_entry (id v) ∷ rest) (solid_entries id vs)

-- one row more
pub more_rows : (f : ℕ → VertexRow) (xs : List ℕ) (i v : ℕ) (x : VertexRow) (rows new : List VertexRow) → new ≡ rows ++ x ∷ [] → x ≡ f v → v ≡ get_or xs i v → i < length xs → rows ++ map f (drop i xs) ≡ map f xs → new ++ map f (drop (i + 1) xs) ≡ map f xs
more_rows f xs i v x rows new put is there within so_far =
    let rest = map f (drop (i + 1) xs) in
    let step : map f (drop i xs) ≡ f v ∷ rest = rw (add-one, drop-cons xs i v) (ap (λ u. f u ∷ map f (drop (suc i) xs)) (sym there)) in
    ap (λ (l : List VertexRow). l ++ rest) put ∙ append_assoc rows (x ∷ []) rest ∙ ap (λ (y : VertexRow). rows ++ y ∷ rest) is ∙ ap (λ (l : List VertexRow). rows ++ l) (sym step) ∙ so_far

-- ---- solid vertices as they are
module _ (m : Mesh) (sound : IsSound m) where
  abbrev marked : List ℕ → List (ℕ × Unit {0})
  marked vs = map (λ v. (v, tt)) vs

  is_among : (q : ℕ) (vs : List ℕ) → AllByRecursion (λ v. is_solid m v ≡ true) vs → IsSome (find nat_cmp q (marked vs)) → is_solid m q ≡ true
  is_among q [] all some = absurd (false≢true some)
  is_among q (v ∷ vs) all some =
      let tied = unsigned_tied q v in
      elim (cases_Bool (q == v)) [
        | inl same ↦ ap (is_solid m) (eqb-true q v same) ∙ all.0
        | inr other ↦ is_among q vs all.1 (sym (ap (λ b. is_some (cond b (Some tt) (find nat_cmp q (marked vs)))) (tied ∙ other)) ∙ some)
      ]

  put_first : (q v : ℕ) (rest : List (ℕ × Unit {0})) → IsSome (find nat_cmp q rest) → IsSome (find nat_cmp q ((v, tt) ∷ rest))
  put_first q v rest some =
      let tied = unsigned_tied q v in
      elim (cases_Bool (q == v)) [
        | inl same ↦ ap (λ b. is_some (cond b (Some tt) (find nat_cmp q rest))) (tied ∙ same)
        | inr other ↦ ap (λ b. is_some (cond b (Some tt) (find nat_cmp q rest))) (tied ∙ other) ∙ some
      ]

  kept_among : (q : ℕ) → is_solid m q ≡ true → (es : List (ℕ × Point)) → IsSome (find nat_cmp q es) → IsSome (find nat_cmp q (marked (filter (is_solid m) (map (λ e. e.0) es))))
  kept_among q solid [] some = absurd (false≢true some)
  kept_among q solid (e ∷ es) some =
      let tied = unsigned_tied q e.0 in
      elim (cases_Bool (q == e.0)) [
        | inl same ↦
            let here : is_solid m e.0 ≡ true = ap (is_solid m) (sym (eqb-true q e.0 same)) ∙ solid in
            rw here (ap (λ b. is_some (cond b (Some tt) (find nat_cmp q (marked (filter (is_solid m) (map (λ e. e.0) es)))))) (tied ∙ same))
        | inr other ↦
            let rest = kept_among q solid es (sym (ap (λ b. is_some (cond b (Some e.1) (find nat_cmp q es))) (tied ∙ other)) ∙ some) in
            elim (cases_Bool (is_solid m e.0)) [
              | inl yes' ↦ rw yes' (put_first q e.0 (marked (filter (is_solid m) (map (λ e. e.0) es))) rest)
              | inr no' ↦ rw no' rest
            ]
      ]

  abbrev solids : List ℕ
  solids = filter (is_solid m) (finite.keys m.points)

  unit_options : (o p : Option (Unit {0})) → (IsSome o → IsSome p) → (IsSome p → IsSome o) → o ≡ p
  unit_options None None to back = refl
  unit_options None (Some u) to back = absurd (false≢true (back refl))
  unit_options (Some u) None to back = absurd (false≢true (to refl))
  unit_options (Some u) (Some v) to back = refl

  solids_again : finite.from_entries {R = nat_cmp} (marked solids) ≡ m.solid
  solids_again = same_map nat_cmp_total nat_cmp-IsAntisymmetric (finite.from_entries (marked solids)) m.solid (λ q.
      let at = get-from_entries nat_cmp_total (marked solids) q in
      unit_options _ _
      (λ some. is_among q solids (all_filtered (λ u. is_solid m u ≡ true) (is_solid m) (finite.keys m.points) (itself (is_solid m) (finite.keys m.points))) (ap is_some (sym at) ∙ some))
      (λ solid. ap is_some at ∙ kept_among q solid (finite.entries m.points) (ap is_some (sym (get-entries m.points q)) ∙ sound.is_mesh.solid_ids q solid)))

-- ---- the mesh

module _ (m : Mesh) (ids : List ℕ) (next : ℕ) (rows : MeshRows) where
  pub vertices_made :
      rows.vertices ≡ map (vertex_row m (vertex_id m ids)) (finite.keys m.points) → rows.faces ≡ map (face_row m (λ f. f) (vertex_id m ids)) (finite.keys m.faces)
      → rows.solids ≡ solid_ids m (vertex_id m ids) (finite.keys m.points) → rows.next_vertex ≡ next → rows.next_face ≡ m.next_face
      → ◌≡◌ {A = Mesh} (record (mesh_of_rows Large rows) { limits = m.limits }) (with_vertex_ids m ids next)
  vertices_made vertices faces solid vertex face =
      let points = ap (map vertex_entry) vertices ∙ vertices_along m (vertex_id m ids) (λ v. v) (finite.entries m.points) (got m.points) in
      let sides = ap (map face_entry) faces ∙ faces_along m (λ f. f) (vertex_id m ids) (finite.entries m.faces) (got m.faces) in
      let marks = ap (map solid_entry) solid ∙ solid_entries (vertex_id m ids) (filter (is_solid m) (finite.keys m.points)) in
      λ i. record { points = finite.from_entries (points i); faces = finite.from_entries (sides i); solid = finite.from_entries (marks i); next_vertex = vertex i; next_face = face i; limits = m.limits }

  pub faces_made : IsSound m →
      rows.vertices ≡ map (vertex_row m (λ v. v)) (finite.keys m.points) → rows.faces ≡ map (face_row m (face_id m ids) (λ v. v)) (finite.keys m.faces)
      → rows.solids ≡ solid_ids m (λ v. v) (finite.keys m.points) → rows.next_vertex ≡ m.next_vertex → rows.next_face ≡ next
      → ◌≡◌ {A = Mesh} (record (mesh_of_rows Large rows) { limits = m.limits }) (with_face_ids m ids next)
  faces_made sound vertices faces solid vertex face =
      let points = ap finite.from_entries (ap (map vertex_entry) vertices ∙ vertices_along m (λ v. v) (λ v. v) (finite.entries m.points) (got m.points) ∙ same_entries (finite.entries m.points)) ∙ made_again m.points in
      let sides = ap (map face_entry) faces ∙ faces_along m (face_id m ids) (λ v. v) (finite.entries m.faces) (got m.faces) in
      let marks = ap finite.from_entries (ap (map solid_entry) solid ∙ solid_entries (λ v. v) (filter (is_solid m) (finite.keys m.points))) ∙ solids_again m sound in
      λ i. record { points = points i; faces = finite.from_entries (sides i); solid = marks i; next_vertex = vertex i; next_face = face i; limits = m.limits }
