-- The four turns of a zip: each leaves a closed mesh, and a sound one where no face is doubled.
use Rattle.std.proofs.Common.{◌≡◌, ◌≢◌, ℕ, ◌+◌, ◌≤◌, false, ◌||◌, ◌==◌, nat_lt, List, [], ◌∷◌, ◌++◌, sym, ap, ◌∙◌, arith}
use Rattle.std.proofs.Math.Logic.{Ne-symm}
use Rattle.std.proofs.lemmas.Bool.Decides.{nat_tests}
use Rattle.std.specs.List.{AllByRecursion}
use Rattle.std.specs.FinMap as finite
use Rattle.grid_base.specs.declared.TheConstants.{ID_MAX}
use Rattle.mesh_base.specs.Mesh.{Mesh, IsSound}
use Rattle.mesh_base.specs.Sides.{IsClosed}
use Rattle.mesh_base.specs.Limits.{is_over_limits}
use Rattle.edit_base.specs.Beside.{IsBeside}
use Rattle.edit_base.specs.Classes.{is_one_of}
use Rattle.edit_base.specs.Edges.{Edge, with_faces, without_faces, doubles_a_face}
use Rattle.edit_zip.specs.Zip.{zip_mesh, turns, four_ids, repeats}
use Rattle.edit_base.proofs.Arcs.{arc}
use Rattle.edit_acts.proofs.Sound.{neither, not_over}
use Rattle.edit_acts.proofs.Changed.{mesh-without_faces, mesh-with_many}
use Rattle.edit_acts.proofs.Counting.{len-with_faces}
use Rattle.edit_zip.proofs.TunnelBalance.{tunnel, IsRim, AreFar, AreAllLive, may_be_made}
use Rattle.edit_zip.proofs.ZipClosed.{AreDisjoint, bare_below, turn_is_closed}

-- ---- eight different ids
apart_of : (x y : ℕ) → (y == x) ≡ false → x ≢ y
apart_of x y e h = grind (arith, nat_tests)

not_one : (xs : List ℕ) (x : ℕ) → is_one_of xs x ≡ false → AllByRecursion (λ y. x ≢ y) xs
not_one [] x h = tt
not_one (y ∷ ys) x h = let two = neither (y == x) (is_one_of ys x) h in (apart_of x y two.0, not_one ys x two.1)

four_far : (x a b c d : ℕ) → AllByRecursion (λ y. x ≢ y) (a ∷ b ∷ c ∷ d ∷ []) → AreFar x b d a c
four_far x a b c d h = let h1 = h.1 in let h2 = h1.1 in let h3 = h2.1 in record { first = h1.0; second = h3.0; third = h.0; fourth = h2.0 }

pub disjoint_of : (s t : Edge) → repeats (four_ids s ++ four_ids t) ≡ false → AreDisjoint s t
disjoint_of s t h =
    let rest = four_ids t in
    let one = neither (is_one_of (s.b ∷ s.c ∷ s.d ∷ rest) s.a) (repeats (s.b ∷ s.c ∷ s.d ∷ rest)) h in
    let two = neither (is_one_of (s.c ∷ s.d ∷ rest) s.b) (repeats (s.c ∷ s.d ∷ rest)) one.1 in
    let three = neither (is_one_of (s.d ∷ rest) s.c) (repeats (s.d ∷ rest)) two.1 in
    let four = neither (is_one_of rest s.d) (repeats rest) three.1 in
    let a = not_one (s.b ∷ s.c ∷ s.d ∷ rest) s.a one.0 in
    let a1 = a.1 in
    let a2 = a1.1 in
    let b = not_one (s.c ∷ s.d ∷ rest) s.b two.0 in
    let b1 = b.1 in
    let c = not_one (s.d ∷ rest) s.c three.0 in
    record {
      a = four_far s.a t.a t.b t.c t.d a2.1;
      b = four_far s.b t.a t.b t.c t.d b1.1;
      c = four_far s.c t.a t.b t.c t.d c.1;
      d = four_far s.d t.a t.b t.c t.d (not_one rest s.d four.0);
    }

-- ---- the rims, turned
pub turned_rim : {a b c d : ℕ} → IsRim a b c d → IsRim b c d a
turned_rim r = record { first = r.second; second = r.third; third = r.fourth; fourth = r.first }

pub turned_far : {p a b c d : ℕ} → AreFar p a b c d → AreFar p b c d a
turned_far f = record { first = f.second; second = f.third; third = f.fourth; fourth = f.first }

pub turned_live : (m : Mesh) {a b c d : ℕ} → AreAllLive m a b c d → AreAllLive m b c d a
turned_live m l = record { first = l.second; second = l.third; third = l.fourth; fourth = l.first }

module _ (m : Mesh) (s t : Edge) (sound : IsSound m) (beside_s : IsBeside m s) (beside_t : IsBeside m t) (apart : AreDisjoint s t) where
  first_rim : IsRim s.b s.c s.a s.d
  first_rim = record { first = beside_s.b_c; second = beside_s.c_a; third = beside_s.a_d; fourth = beside_s.d_b }

  second_rim : IsRim t.b t.d t.a t.c
  second_rim = record { first = Ne-symm beside_t.d_b; second = Ne-symm beside_t.a_d; third = Ne-symm beside_t.c_a; fourth = Ne-symm beside_t.b_c }

  first_live : AreAllLive m s.b s.c s.a s.d
  first_live = record { first = beside_s.b_live; second = beside_s.c_live; third = beside_s.a_live; fourth = beside_s.d_live }

  second_live : AreAllLive m t.b t.d t.a t.c
  second_live = record { first = beside_t.b_live; second = beside_t.d_live; third = beside_t.a_live; fourth = beside_t.c_live }

  same_limits : {f f' : ℕ} → f ≡ f' → (p v n : ℕ) → (nat_lt m.limits.vertices p || nat_lt m.limits.faces f || nat_lt (ID_MAX + 1) v || nat_lt (ID_MAX + 1) n) ≡ (nat_lt m.limits.vertices p || nat_lt m.limits.faces f' || nat_lt (ID_MAX + 1) v || nat_lt (ID_MAX + 1) n)
  same_limits e p v n = ap (λ f. nat_lt m.limits.vertices p || nat_lt m.limits.faces f || nat_lt (ID_MAX + 1) v || nat_lt (ID_MAX + 1) n) e

  -- one turn, by the rim that stands against the first
  module _ (r0 r1 r2 r3 : ℕ) (r : IsRim r0 r1 r2 r3) (live : AreAllLive m r0 r1 r2 r3) (f0 : AreFar s.b r0 r1 r2 r3) (f1 : AreFar s.c r0 r1 r2 r3) (f2 : AreFar s.a r0 r1 r2 r3) (f3 : AreFar s.d r0 r1 r2 r3) where
    abbrev left : Mesh
    left = with_faces (without_faces m (s.left_face ∷ s.right_face ∷ t.left_face ∷ t.right_face ∷ [])) (tunnel s.b s.c s.a s.d r0 r1 r2 r3)

    turn_is_sound : is_over_limits (zip_mesh m s t 0) ≡ false → doubles_a_face left ≡ false → IsSound left
    turn_is_sound fits none =
        let base = without_faces m (s.left_face ∷ s.right_face ∷ t.left_face ∷ t.right_face ∷ []) in
        let below = bare_below m s t sound beside_s beside_t apart in
        let same : finite.len left.faces ≡ finite.len (zip_mesh m s t 0).faces =
        len-with_faces base (tunnel s.b s.c s.a s.d r0 r1 r2 r3) below ∙ sym (len-with_faces base (tunnel s.b s.c s.a s.d t.b t.d t.a t.c) below) in
        record {
          is_mesh = mesh-with_many base (tunnel s.b s.c s.a s.d r0 r1 r2 r3) (mesh-without_faces m (s.left_face ∷ s.right_face ∷ t.left_face ∷ t.right_face ∷ []) sound.is_mesh) sound.limits.face_ids.0
              (may_be_made s.b s.c s.a s.d r0 r1 r2 r3 first_rim r f0 f1 f2 f3 base
              (record { first = first_live.first; second = first_live.second; third = first_live.third; fourth = first_live.fourth })
              (record { first = live.first; second = live.second; third = live.third; fourth = live.fourth })) none;
          limits = not_over left (same_limits same (finite.len m.points) m.next_vertex left.next_face ∙ fits) sound.limits.vertex_ids.0 (some m.next_face) sound.limits.greatest;
        }
      where
        some : (n : ℕ) → 1 ≤ n + 1 + 1 + 1 + 1 + 1 + 1 + 1 + 1
        some n = omega arith

    closed_turn : ((u v : ℕ) → arc r1 r0 u v + arc r2 r1 u v + arc r3 r2 u v + arc r0 r3 u v ≡ arc t.b t.c u v + arc t.c t.a u v + arc t.a t.d u v + arc t.d t.b u v) → IsClosed m → IsClosed left
    closed_turn same closed = turn_is_closed m s t sound beside_s beside_t apart r0 r1 r2 r3 first_rim r f0 f1 f2 f3 same closed

  -- all four turns
  abbrev pub Stands : (ℕ → Type 0) → Type 0
  Stands P = AllByRecursion P turns

  pub turns_are_closed : IsClosed m → Stands (λ k. IsClosed (zip_mesh m s t k))
  turns_are_closed closed =
      let zero = closed_turn t.b t.d t.a t.c second_rim second_live apart.b apart.c apart.a apart.d (λ u v. first_sum (arc t.d t.b u v) (arc t.a t.d u v) (arc t.c t.a u v) (arc t.b t.c u v)) closed in
      let rim1 = turned_rim second_rim in
      let rim2 = turned_rim rim1 in
      let rim3 = turned_rim rim2 in
      let live1 = turned_live m second_live in
      let live2 = turned_live m live1 in
      let live3 = turned_live m live2 in
      let one = closed_turn t.d t.a t.c t.b rim1 live1 (turned_far apart.b) (turned_far apart.c) (turned_far apart.a) (turned_far apart.d) (λ u v. second_sum (arc t.d t.b u v) (arc t.a t.d u v) (arc t.c t.a u v) (arc t.b t.c u v)) closed in
      let two = closed_turn t.a t.c t.b t.d rim2 live2 (turned_far (turned_far apart.b)) (turned_far (turned_far apart.c)) (turned_far (turned_far apart.a)) (turned_far (turned_far apart.d)) (λ u v. third_sum (arc t.d t.b u v) (arc t.a t.d u v) (arc t.c t.a u v) (arc t.b t.c u v)) closed in
      let three = closed_turn t.c t.b t.d t.a rim3 live3 (turned_far (turned_far (turned_far apart.b))) (turned_far (turned_far (turned_far apart.c))) (turned_far (turned_far (turned_far apart.a))) (turned_far (turned_far (turned_far apart.d))) (λ u v. fourth_sum (arc t.d t.b u v) (arc t.a t.d u v) (arc t.c t.a u v) (arc t.b t.c u v)) closed in
      (zero, (one, (two, (three, tt))))
    where
      first_sum : (db ad ca bc : ℕ) → db + ad + ca + bc ≡ bc + ca + ad + db
      first_sum db ad ca bc = omega arith

      second_sum : (db ad ca bc : ℕ) → ad + ca + bc + db ≡ bc + ca + ad + db
      second_sum db ad ca bc = omega arith

      third_sum : (db ad ca bc : ℕ) → ca + bc + db + ad ≡ bc + ca + ad + db
      third_sum db ad ca bc = omega arith

      fourth_sum : (db ad ca bc : ℕ) → bc + db + ad + ca ≡ bc + ca + ad + db
      fourth_sum db ad ca bc = omega arith

  pub turns_are_sound : is_over_limits (zip_mesh m s t 0) ≡ false → Stands (λ k. doubles_a_face (zip_mesh m s t k) ≡ false → IsSound (zip_mesh m s t k))
  turns_are_sound fits =
      let rim1 = turned_rim second_rim in
      let rim2 = turned_rim rim1 in
      let live1 = turned_live m second_live in
      let live2 = turned_live m live1 in
      let zero = turn_is_sound t.b t.d t.a t.c second_rim second_live apart.b apart.c apart.a apart.d fits in
      let one = turn_is_sound t.d t.a t.c t.b rim1 live1 (turned_far apart.b) (turned_far apart.c) (turned_far apart.a) (turned_far apart.d) fits in
      let two = turn_is_sound t.a t.c t.b t.d rim2 live2 (turned_far (turned_far apart.b)) (turned_far (turned_far apart.c)) (turned_far (turned_far apart.a)) (turned_far (turned_far apart.d)) fits in
      let three = turn_is_sound t.c t.b t.d t.a (turned_rim rim2) (turned_live m live2) (turned_far (turned_far (turned_far apart.b))) (turned_far (turned_far (turned_far apart.c))) (turned_far (turned_far (turned_far apart.a))) (turned_far (turned_far (turned_far apart.d))) fits in
      (zero, (one, (two, (three, tt))))
