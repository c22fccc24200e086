-- What is copied of a mesh into empty tables is the mesh.
use Rattle.std.proofs.Common.{◌≡◌, ℕ, ◌==◌, ◌||◌, ◌&&◌, Bool, true, false, cond, List, [], ◌∷◌, Option, Some, None, is_some, refl, sym, ap, ◌∙◌}
use Rattle.std.specs.Option.{option_map_or}
use Rattle.std.specs.List.{fold, list_any}
use Rattle.std.specs.Ordering.{nat_cmp, eq_by_cmp}
use Rattle.std.specs.Cmp.{nat_cmp_total, unsigned_tied}
use Rattle.std.specs.FinMap as finite
use Rattle.std.specs.FinMap.{FinMap, get-insert, get-empty, same_map, nat_cmp-IsAntisymmetric, contains_key-keys}
use Rattle.std.proofs.lemmas.Bool.{false≢true, eqb-true}
use Rattle.grid_base.specs.declared.Point.{Point}
use Rattle.grid_base.specs.Points.{point_at}
use Rattle.grid_base.proofs.PointLaws.{point_at-position_of}
use Rattle.mesh_base.specs.declared.Corners.{Corners}
use Rattle.mesh_base.specs.Mesh.{Mesh, IsSound, is_solid}
use Rattle.mesh_base.specs.Given.{empty_mesh}
use Rattle.mesh_base.specs.Limits.{under}
use Rattle.mesh_base.specs.Placements.{point_of, position_or_origin}
use Rattle.mesh_plain.specs.Copying.{with_vertex_of, with_face_of, with_vertices_of, with_faces_of}
use Rattle.mesh_shape.specs.Numbered.{numbered}

-- whether the number is in the list
abbrev has : List ℕ → ℕ → Bool
has ids q = list_any (λ k. q == k) ids

-- a number is a key where something stands at it
has_key : {X : Type 0} (m : FinMap nat_cmp X) (q : ℕ) → has (finite.keys m) q ≡ is_some (finite.get m q)
has_key m q = sym (contains_key-keys m q ∙ alike (finite.keys m))
  where
    alike : (ks : List ℕ) → list_any (eq_by_cmp nat_cmp q) ks ≡ list_any (λ k. q == k) ks
    alike [] = refl
    alike (k ∷ ks) = ap (λ b. b || list_any (eq_by_cmp nat_cmp q) ks) (unsigned_tied q k) ∙ ap (λ b. (q == k) || b) (alike ks)

-- what stands at a number after an insertion
got : {X : Type 0} (m : FinMap nat_cmp X) (k : ℕ) (v : X) (q : ℕ) → finite.get (finite.insert m k v) q ≡ cond (q == k) (Some v) (finite.get m q)
got m k v q = get-insert nat_cmp_total m k v q ∙ ap (λ b. cond b (Some v) (finite.get m q)) (unsigned_tied q k)

module _ (m : Mesh) where
  -- ---- points
  got_points : (rest : List ℕ) (t : Mesh) (q : ℕ) → finite.get (fold (with_vertex_of m) t rest).points q ≡ cond (has rest q) (Some (point_of m q)) (finite.get t.points q)
  got_points [] t q = refl
  got_points (v ∷ rest) t q =
      got_points rest (with_vertex_of m t v) q
      ∙ ap (cond (has rest q) (Some (point_of m q))) (got t.points v (point_of m v) q)
      ∙ by_tests (q == v) refl (has rest q)
    where
      by_tests : (a : Bool) → (q == v) ≡ a → (b : Bool) → cond b (Some (point_of m q)) (cond a (Some (point_of m v)) (finite.get t.points q)) ≡ cond (a || b) (Some (point_of m q)) (finite.get t.points q)
      by_tests true e true = refl
      by_tests true e false = ap (λ k. Some (point_of m k)) (sym (eqb-true q v e))
      by_tests false e true = refl
      by_tests false e false = refl

  points_are : finite.get (fold (with_vertex_of m) empty_mesh (finite.keys m.points)).points ≡ finite.get m.points
  points_are = λ i q. (got_points (finite.keys m.points) empty_mesh q ∙ ap (λ b. cond b (Some (point_of m q)) (finite.get empty_mesh.points q)) (has_key m.points q) ∙ by_answer q (finite.get m.points q) refl) i
    where
      by_answer : (q : ℕ) (o : Option Point) → finite.get m.points q ≡ o → cond (is_some o) (Some (point_of m q)) (finite.get empty_mesh.points q) ≡ o
      by_answer q (Some p) e = ap (λ o. Some (point_at (position_or_origin o))) e ∙ ap Some (point_at-position_of p)
      by_answer q None e = get-empty nat_cmp q

  -- ---- marks
  got_marks : (rest : List ℕ) (t : Mesh) (q : ℕ) → finite.get (fold (with_vertex_of m) t rest).solid q ≡ cond (has rest q && is_solid m q) (Some tt) (finite.get t.solid q)
  got_marks [] t q = refl
  got_marks (v ∷ rest) t q =
      got_marks rest (with_vertex_of m t v) q
      ∙ ap (cond (has rest q && is_solid m q) (Some tt)) (here (is_solid m v))
      ∙ by_tests (q == v) refl (has rest q) (is_solid m v) refl
    where
      here : (s : Bool) → finite.get (cond s (finite.insert t.solid v tt) t.solid) q ≡ cond ((q == v) && s) (Some tt) (finite.get t.solid q)
      here true = got t.solid v tt q ∙ alike (q == v)
        where
          alike : (a : Bool) → cond a (Some tt) (finite.get t.solid q) ≡ cond (a && true) (Some tt) (finite.get t.solid q)
          alike true = refl
          alike false = refl
      here false = alike (q == v)
        where
          alike : (a : Bool) → finite.get t.solid q ≡ cond (a && false) (Some tt) (finite.get t.solid q)
          alike true = refl
          alike false = refl

      by_tests : (a : Bool) → (q == v) ≡ a → (b : Bool) (s : Bool) → is_solid m v ≡ s → cond (b && is_solid m q) (Some tt) (cond (a && s) (Some tt) (finite.get t.solid q)) ≡ cond ((a || b) && is_solid m q) (Some tt) (finite.get t.solid q)
      by_tests false e b s h = refl
      by_tests true e b s h = same b s (is_solid m q) (ap (is_solid m) (eqb-true q v e) ∙ h)
        where
          same : (b s r : Bool) → r ≡ s → cond (b && r) (Some tt) (cond s (Some tt) (finite.get t.solid q)) ≡ cond r (Some tt) (finite.get t.solid q)
          same true true true h = refl
          same true false false h = refl
          same false true true h = refl
          same false false false h = refl
          same b true false h = absurd (false≢true h)
          same b false true h = absurd (false≢true (sym h))

  marks_are : IsSound m → finite.get (fold (with_vertex_of m) empty_mesh (finite.keys m.points)).solid ≡ finite.get m.solid
  marks_are sound = λ i q. (got_marks (finite.keys m.points) empty_mesh q ∙ ap (λ b. cond (b && is_solid m q) (Some tt) (finite.get empty_mesh.solid q)) (has_key m.points q) ∙ by_answer q (finite.get m.solid q) refl) i
    where
      by_answer : (q : ℕ) (o : Option (Unit {0})) → finite.get m.solid q ≡ o → cond (is_some (finite.get m.points q) && is_solid m q) (Some tt) (finite.get empty_mesh.solid q) ≡ o
      by_answer q (Some u) e =
          let solid : is_solid m q ≡ true = ap is_some e in
          ap (λ b. cond (b && is_solid m q) (Some tt) (finite.get empty_mesh.solid q)) (sound.is_mesh.solid_ids q solid) ∙ ap (λ b. cond b (Some tt) (finite.get empty_mesh.solid q)) solid
      by_answer q None e =
          ap (λ b. cond (is_some (finite.get m.points q) && b) (Some tt) (finite.get empty_mesh.solid q)) (ap is_some e) ∙ none (is_some (finite.get m.points q)) ∙ get-empty nat_cmp q
        where
          none : (a : Bool) → cond (a && false) (Some tt) (finite.get empty_mesh.solid q) ≡ finite.get empty_mesh.solid q
          none true = refl
          none false = refl

  -- ---- faces
  got_faces : (rest : List ℕ) (t : Mesh) (q : ℕ) → finite.get (fold (with_face_of m) t rest).faces q ≡ cond (has rest q && is_some (finite.get m.faces q)) (finite.get m.faces q) (finite.get t.faces q)
  got_faces [] t q = refl
  got_faces (f ∷ rest) t q =
      got_faces rest (with_face_of m t f) q
      ∙ ap (cond (has rest q && is_some (finite.get m.faces q)) (finite.get m.faces q)) (here (finite.get m.faces f))
      ∙ by_tests (q == f) refl (has rest q) (finite.get m.faces f) refl
    where
      here : (o : Option Corners) → finite.get (option_map_or (λ c. finite.insert t.faces f c) o t.faces) q ≡ cond ((q == f) && is_some o) o (finite.get t.faces q)
      here (Some c) = got t.faces f c q ∙ alike (q == f)
        where
          alike : (a : Bool) → cond a (Some c) (finite.get t.faces q) ≡ cond (a && true) (Some c) (finite.get t.faces q)
          alike true = refl
          alike false = refl
      here None = alike (q == f)
        where
          alike : (a : Bool) → finite.get t.faces q ≡ cond (a && false) None (finite.get t.faces q)
          alike true = refl
          alike false = refl

      by_tests : (a : Bool) → (q == f) ≡ a → (b : Bool) (o : Option Corners) → finite.get m.faces f ≡ o
          → cond (b && is_some (finite.get m.faces q)) (finite.get m.faces q) (cond (a && is_some o) o (finite.get t.faces q)) ≡ cond ((a || b) && is_some (finite.get m.faces q)) (finite.get m.faces q) (finite.get t.faces q)
      by_tests false e b o h = refl
      by_tests true e b o h = same b o (finite.get m.faces q) (ap (finite.get m.faces) (eqb-true q f e) ∙ h)
        where
          same : (b : Bool) (o r : Option Corners) → r ≡ o → cond (b && is_some r) r (cond (is_some o) o (finite.get t.faces q)) ≡ cond (is_some r) r (finite.get t.faces q)
          same b (Some c) (Some d) h = both b
            where
              both : (b : Bool) → cond (b && true) (Some d) (Some c) ≡ Some d
              both true = refl
              both false = sym h
          same b None None h = both b
            where
              both : (b : Bool) → cond (b && false) None (finite.get t.faces q) ≡ finite.get t.faces q
              both true = refl
              both false = refl
          same b (Some c) None h = absurd (false≢true (ap is_some h))
          same b None (Some d) h = absurd (false≢true (sym (ap is_some h)))

  faces_are : (t : Mesh) → t.faces ≡ finite.empty → finite.get (fold (with_face_of m) t (finite.keys m.faces)).faces ≡ finite.get m.faces
  faces_are t none = λ i q. (got_faces (finite.keys m.faces) t q ∙ ap (λ b. cond (b && is_some (finite.get m.faces q)) (finite.get m.faces q) (finite.get t.faces q)) (has_key m.faces q) ∙ by_answer q (finite.get m.faces q)) i
    where
      by_answer : (q : ℕ) (o : Option Corners) → cond (is_some o && is_some o) o (finite.get t.faces q) ≡ o
      by_answer q (Some c) = refl
      by_answer q None = ap (λ (faces : FinMap nat_cmp Corners). finite.get faces q) none ∙ get-empty nat_cmp q

  -- ---- what stays
  faces_stay : (rest : List ℕ) (t : Mesh) → (fold (with_vertex_of m) t rest).faces ≡ t.faces
  faces_stay [] t = refl
  faces_stay (v ∷ rest) t = faces_stay rest (with_vertex_of m t v)

  points_stay : (rest : List ℕ) (t : Mesh) → (fold (with_face_of m) t rest).points ≡ t.points
  points_stay [] t = refl
  points_stay (f ∷ rest) t = points_stay rest (with_face_of m t f)

  marks_stay : (rest : List ℕ) (t : Mesh) → (fold (with_face_of m) t rest).solid ≡ t.solid
  marks_stay [] t = refl
  marks_stay (f ∷ rest) t = marks_stay rest (with_face_of m t f)

  -- all of it
  pub copied : IsSound m → under m.limits (numbered (with_faces_of m (with_vertices_of m empty_mesh)) m.next_vertex m.next_face) ≡ m
  copied sound =
      let t : Mesh = with_vertices_of m empty_mesh in
      let points : (with_faces_of m t).points ≡ m.points =
      points_stay (finite.keys m.faces) t ∙ same_map nat_cmp_total nat_cmp-IsAntisymmetric t.points m.points (λ q. ap (λ (g : ℕ → Option Point). g q) points_are) in
      let faces : (with_faces_of m t).faces ≡ m.faces =
      same_map nat_cmp_total nat_cmp-IsAntisymmetric (with_faces_of m t).faces m.faces (λ q. ap (λ (g : ℕ → Option Corners). g q) (faces_are t (faces_stay (finite.keys m.points) empty_mesh))) in
      let solid : (with_faces_of m t).solid ≡ m.solid =
      marks_stay (finite.keys m.faces) t ∙ same_map nat_cmp_total nat_cmp-IsAntisymmetric t.solid m.solid (λ q. ap (λ (g : ℕ → Option (Unit {0})). g q) (marks_are sound)) in
      λ i. record { points = points i; faces = faces i; solid = solid i; next_vertex = m.next_vertex; next_face = m.next_face; limits = m.limits }
