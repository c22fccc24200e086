-- The two faces beside an edge that is not crowded, in a sound and closed mesh.
use Rattle.std.proofs.Common.{◌≡◌, ◌≢◌, ℕ, zero, suc, ◌+◌, ◌<◌, Bool, true, false, cond, ◌&&◌, ◌||◌, ◌==◌, nat_lt, List, [], ◌∷◌, length, map, slice_index, Some, ◌⊎◌, ⊎_elim, inl, inr, refl, sym, ap, subst, ◌∙◌, arith}
use Rattle.std.proofs.lemmas.Bool.{eqb-true}
use Rattle.std.proofs.lemmas.Bool.Decides.{nat_tests}
use Rattle.std.specs.Option.{unwrap_or}
use Rattle.std.specs.List.{filter, AllByRecursion}
use Rattle.std.specs.Ordering.{nat_cmp}
use Rattle.std.specs.FinMap as finite
use Rattle.std.specs.FinMap.{entries_sorted, get-entries}
use Rattle.std.specs.FinMap.Entries.{find}
use Rattle.mesh_base.specs.declared.ids.Corners.{Corners}
use Rattle.mesh_base.specs.Mesh.{Mesh, IsSound, IsLiveVertex, HasCorners, AreDifferent}
use Rattle.mesh_base.specs.Sides.{follows, runs, ids_where, IsClosed}
use Rattle.mesh_base.specs.Pairs.{is_edge}
use Rattle.edit_base.specs.Edges.{edge_of, corners_at, opposite_vertex, face_running}
use Rattle.mesh_base.proofs.Listed.{each_found, edge_live, and_first, and_second, or_either}
use Rattle.edit_base.specs.Beside.{IsBeside}
use Rattle.edit_base.proofs.Arcs.{arc, round_of, first_way, second_way, third_way}

-- ---- the first face that runs one way
first_running : (Q : ℕ × Corners → Type 0) (test : Corners → Bool) (es : List (ℕ × Corners)) → AllByRecursion Q es → 0 < length (ids_where test es) → (c : Corners) × (test c ≡ true) × Q (slice_index (ids_where test es) 0, c)
first_running Q test [] h some = absurd (omega arith)
first_running Q test (e ∷ es) h some = by_test (first_running Q test es h.1) (test e.1) refl some
  where
    by_test : (0 < length (ids_where test es) → (c : Corners) × (test c ≡ true) × Q (slice_index (ids_where test es) 0, c)) → (b : Bool) → test e.1 ≡ b →
        0 < length (map (λ x. x.0) (cond b (e ∷ filter (λ x. test x.1) es) (filter (λ x. test x.1) es))) →
        (c : Corners) × (test c ≡ true) × Q (slice_index (map (λ x. x.0) (cond b (e ∷ filter (λ x. test x.1) es) (filter (λ x. test x.1) es))) 0, c)
    by_test rest true t some = (e.1, t, h.0)
    by_test rest false t some = rest some

pub face_there : (m : Mesh) (u v : ℕ) → 0 < runs m u v → (c : Corners) × (follows c u v ≡ true) × HasCorners m (face_running m u v) c
face_there m u v some =
    let found = first_running (λ e. find nat_cmp e.0 (finite.entries m.faces) ≡ Some e.1) (λ c. follows c u v) (finite.entries m.faces) (each_found (finite.entries m.faces) (entries_sorted m.faces)) some in
    (found.0, found.1, get-entries m.faces (face_running m u v) ∙ found.2)

-- ---- the opposite vertex
-- a, b and the opposite vertex are three corners of the face, one after another
pub record AreRound (C : Corners) (a b : ℕ) : Type 0 where
  pub a_b : a ≢ b
  pub b_c : b ≢ opposite_vertex C a b
  pub c_a : opposite_vertex C a b ≢ a

three_apart : {x y z a b c : ℕ} → x ≡ a → y ≡ b → c ≡ z → x ≢ y → y ≢ z → z ≢ x → (a ≢ b) × (b ≢ c) × (c ≢ a)
three_apart e f g xy yz zx = (λ h. xy (e ∙ h ∙ sym f), λ h. yz (f ∙ h ∙ g), λ h. zx (sym g ∙ h ∙ sym e))

as_round : (C : Corners) (a b : ℕ) → (a ≢ b) × (b ≢ opposite_vertex C a b) × (opposite_vertex C a b ≢ a) → AreRound C a b
as_round C a b h = record { a_b = h.0; b_c = h.1; c_a = h.2 }

pub are_round : (C : Corners) (a b : ℕ) → AreDifferent C → follows C a b ≡ true → AreRound C a b
are_round C a b d e =
    ⊎_elim (λ two. ⊎_elim
    (λ one. let x = and_first (C.first == a) _ one in let y = and_second (C.first == a) _ one in
    as_round C a b (three_apart (eqb-true C.first a x) (eqb-true C.second b y) (first_way C a b x) d.first_second d.second_third d.third_first))
    (λ one. let x = and_first (C.second == a) _ one in let y = and_second (C.second == a) _ one in
    as_round C a b (three_apart (eqb-true C.second a x) (eqb-true C.third b y) (second_way C a b d x) d.second_third d.third_first d.first_second))
    (or_either (C.first == a && C.second == b) _ two))
    (λ one. let x = and_first (C.third == a) _ one in let y = and_second (C.third == a) _ one in
    as_round C a b (three_apart (eqb-true C.third a x) (eqb-true C.first b y) (third_way C a b d x) d.third_first d.first_second d.second_third))
    (or_either ((C.first == a && C.second == b) || (C.second == a && C.third == b)) _ e)

pub third_live : (m : Mesh) (C : Corners) (a b : ℕ) → IsLiveVertex m C.first × IsLiveVertex m C.second × IsLiveVertex m C.third → AreDifferent C → follows C a b ≡ true → IsLiveVertex m (opposite_vertex C a b)
third_live m C a b live d e =
    ⊎_elim (λ two. ⊎_elim
    (λ one. subst (IsLiveVertex m) (sym (first_way C a b (and_first (C.first == a) _ one))) live.2)
    (λ one. subst (IsLiveVertex m) (sym (second_way C a b d (and_first (C.second == a) _ one))) live.0)
    (or_either (C.first == a && C.second == b) _ two))
    (λ one. subst (IsLiveVertex m) (sym (third_way C a b d (and_first (C.third == a) _ one))) live.1)
    (or_either ((C.first == a && C.second == b) || (C.second == a && C.third == b)) _ e)

-- ---- a face does not run both ways
pub none_of : (x y u v : ℕ) → (x ≢ u) ⊎ (y ≢ v) → arc x y u v ≡ 0
none_of x y u v apart = by_tests (x == u) (y == v) refl refl
  where
    by_tests : (a b : Bool) → (x == u) ≡ a → (y == v) ≡ b → ◌≡◌ {A = ℕ} (cond (a && b) 1 0) 0
    by_tests true true e f = absurd (⊎_elim (λ no. no (eqb-true x u e)) (λ no. no (eqb-true y v f)) apart)
    by_tests true false e f = refl
    by_tests false true e f = refl
    by_tests false false e f = refl

pub not_both_ways : (C : Corners) (a b : ℕ) → AreDifferent C → follows C a b ≡ true → follows C b a ≡ true → ⊥
not_both_ways C a b d step step_back =
    let turn = are_round C a b d step in
    let c = opposite_vertex C a b in
    let count = round_of C a b b a d step in
    let one : ◌≡◌ {A = ℕ} (cond (follows C b a) 1 0) 1 = ap (λ t. cond t 1 0) step_back in
    clash _ _ _ (sym one ∙ count) (none_of a b b a (inl turn.a_b)) (none_of b c b a (inr turn.c_a)) (none_of c a b a (inl (λ h. turn.b_c (sym h))))
  where
    clash : (x y z : ℕ) → 1 ≡ x + y + z → x ≡ 0 → y ≡ 0 → z ≡ 0 → ⊥
    clash x y z h e f g = omega arith

-- ---- both faces
pub beside_of : (m : Mesh) (u v : ℕ) → IsSound m → IsClosed m → is_edge m (edge_of m u v).a (edge_of m u v).b ≡ true → IsBeside m (edge_of m u v)
beside_of m u v sound closed edge =
    let s = edge_of m u v in
    let some = both_ways (runs m s.a s.b) (runs m s.b s.a) (closed s.a s.b) edge in
    let f = face_there m s.a s.b some.0 in
    let g = face_there m s.b s.a some.1 in
    let f_live = sound.is_mesh.live_corners s.left_face f.0 f.2 in
    let g_live = sound.is_mesh.live_corners s.right_face g.0 g.2 in
    let f_different = sound.is_mesh.different_corners s.left_face f.0 f.2 in
    let g_different = sound.is_mesh.different_corners s.right_face g.0 g.2 in
    let third : opposite_vertex f.0 s.a s.b ≡ s.c = ap (λ C. opposite_vertex C s.a s.b) (sym (corners_there s.left_face f.0 f.2)) in
    let fourth : opposite_vertex g.0 s.b s.a ≡ s.d = ap (λ C. opposite_vertex C s.b s.a) (sym (corners_there s.right_face g.0 g.2)) in
    let f_round = are_round f.0 s.a s.b f_different f.1 in
    let g_round = are_round g.0 s.b s.a g_different g.1 in
    let ends = edge_live m s.a s.b sound (positive _ edge) in
    let c_live : IsLiveVertex m s.c = subst (IsLiveVertex m) third (third_live m f.0 s.a s.b f_live f_different f.1) in
    let d_live : IsLiveVertex m s.d = subst (IsLiveVertex m) fourth (third_live m g.0 s.b s.a g_live g_different g.1) in
    let below : (w : ℕ) → IsLiveVertex m w → w < m.next_vertex = λ w live. (sound.is_mesh.vertex_ids w live).1 in
    record {
      left_corners = f.0;
      right_corners = g.0;
      left_face = f.2;
      right_face = g.2;
      left_runs = f.1;
      right_runs = g.1;
      third = third;
      fourth = fourth;
      left_different = f_different;
      right_different = g_different;
      two_faces = λ same. not_both_ways f.0 s.a s.b f_different f.1 (subst (λ C. follows C s.b s.a ≡ true) (one_face s.left_face s.right_face g.0 f.0 same g.2 f.2) g.1);
      a_below = below s.a ends.0;
      b_below = below s.b ends.1;
      c_below = below s.c c_live;
      d_below = below s.d d_live;
      a_live = ends.0;
      b_live = ends.1;
      c_live = c_live;
      d_live = d_live;
      a_b = f_round.a_b;
      b_c = λ h. f_round.b_c (h ∙ sym third);
      c_a = λ h. f_round.c_a (third ∙ h);
      a_d = λ h. g_round.b_c (h ∙ sym fourth);
      d_b = λ h. g_round.c_a (fourth ∙ h);
    }
  where
    both_ways : (k l : ℕ) → k ≡ l → nat_lt 0 (k + l) ≡ true → (0 < k) × (0 < l)
    both_ways zero l e h = absurd (nothing l (sym e) h)
      where
        nothing : (l : ℕ) → l ≡ 0 → nat_lt 0 (0 + l) ≡ true → ⊥
        nothing l e h = grind (arith, nat_tests)
    both_ways (suc k) l e h = (omega arith, omega arith)

    positive : (n : ℕ) → nat_lt 0 n ≡ true → 0 < n
    positive n h = grind (arith, nat_tests)

    corners_there : (f : ℕ) (c : Corners) → HasCorners m f c → corners_at m f ≡ c
    corners_there f c h = ap (λ o. unwrap_or o (record { first = 0; second = 0; third = 0 })) h

    one_face : (f g : ℕ) (c d : Corners) → f ≡ g → HasCorners m g c → HasCorners m f d → c ≡ d
    one_face f g c d same h k = sym (corners_there g c h) ∙ ap (corners_at m) (sym same) ∙ corners_there f d k
