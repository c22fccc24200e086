-- The mesh of lists of good shape is sound.
use Rattle.std.proofs.Common.{◌≡◌, ◌≢◌, ℕ, zero, suc, ◌+◌, ◌<◌, ◌≤◌, ◌==◌, ◌&&◌, ◌||◌, Bool, true, false, cond, List, [], ◌∷◌, ◌++◌, Option, Some, None, IsSome, is_some, map, length, nat_lt, nat_le, slice_get, if◌then◌else◌, option_map, T, refl, sym, ap, subst, ◌∙◌, ⊎_elim, lit≤, arith}
use Rattle.mesh_base.proofs.Tests.{not_both}
use Rattle.std.specs.Option.{option_or}
use Rattle.std.specs.List.{position_from, enumerate_from}
use Rattle.std.specs.Ordering.{nat_cmp, is_lt}
use Rattle.std.specs.declared.cmp.Ordering.TheVariants.{Less, Equal, Greater}
use Rattle.std.specs.Cmp.{nat_cmp_total, unsigned_tied}
use Rattle.std.specs.FinMap as finite
use Rattle.std.specs.FinMap.{get-from_entries, nat_cmp-IsAntisymmetric, from_entries_push, len-entries}
use Rattle.std.specs.FinMap.Entries.{find, is_sorted, below_all}
use Rattle.std.proofs.lemmas.List.{length-map, length-append}
use Rattle.std.proofs.lemmas.List.FromFn.{length-enumerate_from}
use Rattle.std.proofs.lemmas.Bool.{cases_lt, cases_eq}
use Rattle.std.proofs.lemmas.Bool.Decides.{nat_tests}
use Rattle.std.proofs.lemmas.Option.{slice_get_within}
use Rattle.grid_base.specs.declared.Point.{Point}
use Rattle.mesh_base.specs.declared.limits.Scale.{Scale}
use Rattle.mesh_base.specs.Limits.{limits_of}
use Rattle.mesh_base.proofs.MeshLaws.{few_vertices_of, few_faces_of}
use Rattle.mesh_base.specs.declared.ids.Corners.{Corners}
use Rattle.mesh_base.specs.declared.faults.ShapeFault.TheVariants.{TooManyVertices, TooManyFaces, NoVertex, Repeated}
use Rattle.mesh_base.specs.Mesh.{IsSound, AreLive, AreDifferent, HasCorners, equal_up_to_rotation}
use Rattle.mesh_base.specs.Given.{Faces}
use Rattle.mesh_shape.specs.Shape.{bad_corner, no_vertex_from, repeats, repeated_from, doubled_from, is_vertex, fault_but_balance, shape_fault}
use Rattle.mesh_base.proofs.Finite.{none_in_empty}
use Rattle.mesh_base.proofs.Ordered.{entries-of_sorted}
use Rattle.mesh_base.proofs.MeshLaws.{equal_symmetric}
use Rattle.mesh_base.specs.Given.{mesh_under}
use Rattle.mesh_base.specs.Changes.{with_vertex, with_face, corners_of}

-- keys of a numbered list begin at the first number
none_before : {A : Type 0} (k q : ℕ) (xs : List A) → q < k → find nat_cmp q (enumerate_from k xs) ≡ None
none_before k q [] h = refl
none_before k q (x ∷ xs) h =
    let apart : (q == k) ≡ false = grind (arith, nat_tests) in
    ap (λ b. cond b (Some x) (find nat_cmp q (enumerate_from (k + 1) xs))) (unsigned_tied q k ∙ apart) ∙ none_before (k + 1) q xs (omega arith)

-- a numbered list has at k + i what stands at i
pub numbered : {A : Type 0} (k i q : ℕ) (xs : List A) → k + i ≡ q → find nat_cmp q (enumerate_from k xs) ≡ slice_get xs i
numbered k i q [] e = refl
numbered k zero q (x ∷ xs) e =
    let same : (q == k) ≡ true = grind (arith, nat_tests) in
    ap (λ b. cond b (Some x) (find nat_cmp q (enumerate_from (k + 1) xs))) (unsigned_tied q k ∙ same)
numbered k (suc i) q (x ∷ xs) e =
    let apart : (q == k) ≡ false = grind (arith, nat_tests) in
    ap (λ b. cond b (Some x) (find nat_cmp q (enumerate_from (k + 1) xs))) (unsigned_tied q k ∙ apart) ∙ numbered (k + 1) i q xs (omega arith)

none_past : {A : Type 0} (xs : List A) (i : ℕ) → length xs ≤ i → slice_get xs i ≡ None
none_past [] i h = refl
none_past (x ∷ xs) zero h = absurd (omega arith)
none_past (x ∷ xs) (suc i) h = none_past xs i (omega arith)

pub numbered_push : {A : Type 0} (k : ℕ) (xs : List A) (y : A) → enumerate_from k (xs ++ y ∷ []) ≡ enumerate_from k xs ++ (k + length xs, y) ∷ []
numbered_push k [] y = let e : k ≡ k + 0 = omega arith in ap (λ n. (n, y) ∷ []) e
numbered_push k (x ∷ xs) y =
    let e : (k + 1) + length xs ≡ k + suc (length xs) = omega arith in
    ap (λ es. (k, x) ∷ es) (numbered_push (k + 1) xs y ∙ ap (λ n. enumerate_from (k + 1) xs ++ (n, y) ∷ []) e)

-- one more in the list is one more in the map
pub pushed : {A : Type 0} (xs : List A) (y : A) → finite.from_entries {R = nat_cmp} (enumerate_from 1 (xs ++ y ∷ [])) ≡ finite.insert (finite.from_entries (enumerate_from 1 xs)) (length xs + 1) y
pushed xs y =
    let n : 1 + length xs ≡ length xs + 1 = omega arith in
    ap finite.from_entries (numbered_push 1 xs y ∙ ap (λ k. enumerate_from 1 xs ++ (k, y) ∷ []) n)
    ∙ from_entries_push nat_cmp_total nat_cmp-IsAntisymmetric (enumerate_from 1 xs) (length xs + 1) y (numbered 1 (length xs) (length xs + 1) xs n ∙ none_past xs (length xs) (omega arith))

both_true : (a b : Bool) → T a → T b → T (a && b)
both_true true b p q = q
both_true false b p q = p

below_numbers : {A : Type 0} (j k : ℕ) (xs : List A) → j < k → T (below_all nat_cmp j (enumerate_from k xs))
below_numbers j k [] h = tt
below_numbers j k (x ∷ xs) h =
    let low : nat_lt j k ≡ true = grind (arith, nat_tests) in
    both_true _ _ (subst (λ b. T (is_lt (cond b Less (cond (j == k) Equal Greater)))) (sym low) tt) (below_numbers j (k + 1) xs (omega arith))

pub sorted_numbers : {A : Type 0} (k : ℕ) (xs : List A) → T (is_sorted nat_cmp (enumerate_from k xs))
sorted_numbers k [] = tt
sorted_numbers k (x ∷ xs) = both_true _ _ (below_numbers k (k + 1) xs (omega arith)) (sorted_numbers (k + 1) xs)

pub len_numbered : {A : Type 0} (xs : List A) → finite.len (finite.from_entries {R = nat_cmp} (enumerate_from 1 xs)) ≡ length xs
len_numbered xs = len-entries _ ∙ ap length (entries-of_sorted (enumerate_from 1 xs) (sorted_numbers 1 xs)) ∙ length-enumerate_from 1 xs

-- what the map of a numbered list has
got_numbered : {A : Type 0} (xs : List A) (q : ℕ) (x : A) → finite.get (finite.from_entries {R = nat_cmp} (enumerate_from 1 xs)) q ≡ Some x → (i : ℕ) × (q ≡ i + 1) × (slice_get xs i ≡ Some x)
got_numbered xs zero x h = let none = none_before 1 0 xs (omega arith) in let found = get-from_entries nat_cmp_total (enumerate_from 1 xs) 0 in cc
got_numbered xs (suc i) x h = (i, omega arith, sym (numbered 1 i (suc i) xs (omega arith)) ∙ sym (get-from_entries nat_cmp_total (enumerate_from 1 xs) (suc i)) ∙ h)

is_there : {A : Type 0} (xs : List A) (i : ℕ) → i < length xs → is_some (slice_get xs i) ≡ true
is_there [] i h = absurd (omega arith)
is_there (x ∷ xs) zero h = refl
is_there (x ∷ xs) (suc i) h = is_there xs i (omega arith)

live_numbered : {A : Type 0} (xs : List A) (q : ℕ) → 1 ≤ q → q ≤ length xs → IsSome (finite.get (finite.from_entries {R = nat_cmp} (enumerate_from 1 xs)) q)
live_numbered xs zero h h' = absurd (omega arith)
live_numbered xs (suc i) h h' = ap is_some (get-from_entries nat_cmp_total (enumerate_from 1 xs) (suc i) ∙ numbered 1 i (suc i) xs (omega arith)) ∙ is_there xs i (omega arith)

pub of_live : {A : Type 0} (xs : List A) (q : ℕ) → IsSome (finite.get (finite.from_entries {R = nat_cmp} (enumerate_from 1 xs)) q) → (1 ≤ q) × (q < length xs + 1)
of_live xs q h = seen (finite.get (finite.from_entries {R = nat_cmp} (enumerate_from 1 xs)) q) refl h
  where
    seen : (o : Option _) → finite.get (finite.from_entries {R = nat_cmp} (enumerate_from 1 xs)) q ≡ o → is_some o ≡ true → (1 ≤ q) × (q < length xs + 1)
    seen None is e = cc
    seen (Some x) is e = let at = got_numbered xs q x is in let inside = slice_get_within xs at.0 x at.2 in omega (arith, at.1, inside)

pub get_map : {A B : Type 0} (g : A → B) (xs : List A) (i : ℕ) (y : B) → slice_get (map g xs) i ≡ Some y → (x : A) × (slice_get xs i ≡ Some x) × (y ≡ g x)
get_map g [] i y h = cc
get_map g (x ∷ xs) zero y h = (x, refl, cc)
get_map g (x ∷ xs) (suc i) y h = get_map g xs i y h

-- a face of the mesh is one of the list
face_of : (scale : Scale) (ps : List Point) (fs : Faces) (f : ℕ) (c : Corners) → HasCorners (mesh_under scale ps fs) f c → (i : ℕ) × (l : List ℕ) × (f ≡ i + 1) × (slice_get fs i ≡ Some l) × (c ≡ corners_of l)
face_of scale ps fs f c h =
    let at = got_numbered (map corners_of fs) f c h in
    let from = get_map corners_of fs at.0 c at.2 in
    (at.0, from.0, at.1, from.1, from.2)

pub none_of : {A : Type 0} (x y : Option A) → option_or x y ≡ None → (x ≡ None) × (y ≡ None)
none_of None y h = (refl, h)
none_of (Some x) y h = cc

pub none_mapped : {A B : Type 0} (g : A → B) (o : Option A) → option_map g o ≡ None → o ≡ None
none_mapped g None h = refl
none_mapped g (Some x) h = cc

pub not_tested : {A : Type 0} (b : Bool) (x : A) → (if b then Some x else None) ≡ None → b ≡ false
not_tested true x h = cc
not_tested false x h = refl

abbrev pub first_false : Bool → Bool → Bool → Option ℕ
first_false p q r = if p then (if q then (if r then None else Some 3) else Some 2) else Some 1

pub all_vertices : (n : ℕ) (c : Corners) → bad_corner n c ≡ None → (is_vertex n c.first ≡ true) × (is_vertex n c.second ≡ true) × (is_vertex n c.third ≡ true)
all_vertices n c h = tests (is_vertex n c.first) (is_vertex n c.second) (is_vertex n c.third) h
  where
    tests : (p q r : Bool) → first_false p q r ≡ None → (p ≡ true) × (q ≡ true) × (r ≡ true)
    tests true true true h = (refl, refl, refl)
    tests true true false h = cc
    tests true false r h = cc
    tests false q r h = cc

no_bad_corner : (n k : ℕ) (fs : Faces) (i : ℕ) (l : List ℕ) → no_vertex_from n k fs ≡ None → slice_get fs i ≡ Some l → bad_corner n (corners_of l) ≡ None
no_bad_corner n k [] i l h e = cc
no_bad_corner n k (f ∷ fs) zero l h e = let same : f ≡ l = cc in subst (λ x. bad_corner n (corners_of x) ≡ None) same (none_mapped _ _ (none_of _ (no_vertex_from n (k + 1) fs) h).0)
no_bad_corner n k (f ∷ fs) (suc i) l h e = no_bad_corner n (k + 1) fs i l (none_of (option_map (λ corner. (k, corner)) (bad_corner n (corners_of f))) _ h).1 e

pub none_here : (b : Bool) (k : ℕ) (r : Option ℕ) → cond b (Some k) r ≡ None → (b ≡ false) × (r ≡ None)
none_here true k r h = cc
none_here false k r h = (refl, h)

pub nowhere : (p : List ℕ → Bool) (k : ℕ) (fs : Faces) (i : ℕ) (l : List ℕ) → position_from p k fs ≡ None → slice_get fs i ≡ Some l → p l ≡ false
nowhere p k [] i l h e = cc
nowhere p k (f ∷ fs) zero l h e = let same : f ≡ l = cc in subst (λ x. p x ≡ false) same (none_here (p f) k (position_from p (k + 1) fs) h).0
nowhere p k (f ∷ fs) (suc i) l h e = nowhere p (k + 1) fs i l (none_here (p f) k (position_from p (k + 1) fs) h).1 e

none_doubled : (k : ℕ) (fs : Faces) (i j : ℕ) (l r : List ℕ) → doubled_from k fs ≡ None → i < j → slice_get fs i ≡ Some l → slice_get fs j ≡ Some r → equal_up_to_rotation (corners_of l) (corners_of r) ≡ false
none_doubled k [] i j l r h less e e' = cc
none_doubled k (f ∷ fs) i zero l r h less e e' = absurd (omega arith)
none_doubled k (f ∷ fs) zero (suc j) l r h less e e' =
    let same : f ≡ l = cc in
    subst (λ x. equal_up_to_rotation (corners_of x) (corners_of r) ≡ false) same (nowhere (λ g. equal_up_to_rotation (corners_of f) (corners_of g)) (k + 1) fs j r (none_mapped _ _ (none_of _ (doubled_from (k + 1) fs) h).0) e')
none_doubled k (f ∷ fs) (suc i) (suc j) l r h less e e' =
    none_doubled (k + 1) fs i j l r (none_of (option_map (λ second. (k, second)) (position_from (λ g. equal_up_to_rotation (corners_of f) (corners_of g)) (k + 1) fs)) _ h).1 (omega arith) e e'

different : (c : Corners) → repeats c ≡ false → AreDifferent c
different c h = let apart = three c.first c.second c.third h in record { first_second = apart.0; second_third = apart.1; third_first = apart.2 }
  where
    three : (a b c : ℕ) → ((a == b) || (b == c) || (c == a)) ≡ false → (a ≢ b) × (b ≢ c) × (c ≢ a)
    three a b c h = (λ e. grind (arith, nat_tests), λ e. grind (arith, nat_tests), λ e. grind (arith, nat_tests))

-- a vertex is numbered from 1
pub between : (n v : ℕ) → is_vertex n v ≡ true → (1 ≤ v) × (v ≤ n)
between n v h = two n v h
  where
    two : (n v : ℕ) → (nat_le 1 v && nat_le v n) ≡ true → (1 ≤ v) × (v ≤ n)
    two n v h = (grind (arith, nat_tests), grind (arith, nat_tests))

pub is_live : (ps : List Point) (v : ℕ) → is_vertex (length ps) v ≡ true → IsSome (finite.get (finite.from_entries {R = nat_cmp} (enumerate_from 1 ps)) v)
is_live ps v h = let bounds = between (length ps) v h in live_numbered ps v bounds.0 bounds.1

pub few : (limit n : ℕ) → nat_lt limit n ≡ false → n ≤ limit
few limit n h = grind (arith, nat_tests)

-- ---- each part of the laws and the limits
pub few_vertices : (scale : Scale) (ps : List Point) (fs : Faces) → nat_lt (limits_of scale).vertices (length ps) ≡ false → finite.len (mesh_under scale ps fs).points ≤ (limits_of scale).vertices
few_vertices scale ps fs h = let n = len_numbered ps in let small = few (limits_of scale).vertices (length ps) h in omega arith

pub few_faces : (scale : Scale) (ps : List Point) (fs : Faces) → nat_lt (limits_of scale).faces (length fs) ≡ false → finite.len (mesh_under scale ps fs).faces ≤ (limits_of scale).faces
few_faces scale ps fs h = let n = len_numbered (map corners_of fs) in let small = few (limits_of scale).faces (length fs) h in omega (arith, n, length-map fs corners_of)

pub corners_live : (scale : Scale) (ps : List Point) (fs : Faces) → no_vertex_from (length ps) 1 fs ≡ None → (f : ℕ) (c : Corners) → HasCorners (mesh_under scale ps fs) f c → AreLive (mesh_under scale ps fs) c
corners_live scale ps fs vertices f c e =
    let at = face_of scale ps fs f c e in
    let live = all_vertices (length ps) (corners_of at.1) (no_bad_corner (length ps) 1 fs at.0 at.1 vertices at.3) in
    subst (AreLive (mesh_under scale ps fs)) (sym at.4) (is_live ps (corners_of at.1).first live.0, is_live ps (corners_of at.1).second live.1, is_live ps (corners_of at.1).third live.2)

pub corners_different : (scale : Scale) (ps : List Point) (fs : Faces) → repeated_from 1 fs ≡ None → (f : ℕ) (c : Corners) → HasCorners (mesh_under scale ps fs) f c → AreDifferent c
corners_different scale ps fs once f c e =
    let at = face_of scale ps fs f c e in
    subst AreDifferent (sym at.4) (different (corners_of at.1) (nowhere (λ l. repeats (corners_of l)) 1 fs at.0 at.1 once at.3))

pub faces_different : (scale : Scale) (ps : List Point) (fs : Faces) → doubled_from 1 fs ≡ None → (f g : ℕ) (c d : Corners) → HasCorners (mesh_under scale ps fs) f c → HasCorners (mesh_under scale ps fs) g d → equal_up_to_rotation c d ≡ true → f ≡ g
faces_different scale ps fs single f g c d e e' same =
    let at = face_of scale ps fs f c e in
    let at' = face_of scale ps fs g d e' in
    let equal : equal_up_to_rotation (corners_of at.1) (corners_of at'.1) ≡ true = subst (λ x. equal_up_to_rotation x (corners_of at'.1) ≡ true) at.4 (subst (λ x. equal_up_to_rotation c x ≡ true) at'.4 same) in
    ⊎_elim (λ less. absurd (not_both equal (none_doubled 1 fs at.0 at'.0 at.1 at'.1 single less at.3 at'.3)))
    (λ le. ⊎_elim (λ is. at.2 ∙ ap (λ i. i + 1) is ∙ sym at'.2)
    (λ apart. absurd (not_both (equal_symmetric (corners_of at.1) (corners_of at'.1) equal) (none_doubled 1 fs at'.0 at.0 at'.1 at.1 single (omega arith) at'.3 at.3)))
    (cases_eq at.0 at'.0))
    (cases_lt at.0 at'.0)

-- what no part denies
pub record HaveNoFault (scale : Scale) (n : ℕ) (fs : Faces) : Type 0 where
  pub vertices : nat_lt (limits_of scale).vertices n ≡ false
  pub faces : nat_lt (limits_of scale).faces (length fs) ≡ false
  pub corners : no_vertex_from n 1 fs ≡ None
  pub once : repeated_from 1 fs ≡ None
  pub single : doubled_from 1 fs ≡ None

pub no_fault_but_balance : (scale : Scale) (n : ℕ) (fs : Faces) → fault_but_balance scale n fs ≡ None → HaveNoFault scale n fs
no_fault_but_balance scale n fs h =
    let p1 = none_of (if nat_lt (limits_of scale).vertices n then Some (TooManyVertices n) else None) _ h in
    let p2 = none_of (if nat_lt (limits_of scale).faces (length fs) then Some (TooManyFaces (length fs)) else None) _ p1.1 in
    let p3 = none_of (option_map (λ p. NoVertex p.0 p.1) (no_vertex_from n 1 fs)) _ p2.1 in
    let p4 = none_of (option_map (λ face. Repeated face) (repeated_from 1 fs)) _ p3.1 in
    record {
      vertices = not_tested _ _ p1.0;
      faces = not_tested _ _ p2.0;
      corners = none_mapped _ _ p3.0;
      once = none_mapped _ _ p4.0;
      single = none_mapped _ _ p4.1;
    }

-- lists of good shape make a sound mesh
pub sound-mesh_under : (scale : Scale) (ps : List Point) (fs : Faces) → shape_fault scale (length ps) fs ≡ None → IsSound (mesh_under scale ps fs)
sound-mesh_under scale ps fs h =
    let none = no_fault_but_balance scale (length ps) fs (none_of (fault_but_balance scale (length ps) fs) _ h).0 in
    let points_few = few (limits_of scale).vertices (length ps) none.vertices in
    let faces_few = few (limits_of scale).faces (length fs) none.faces in
    let most_points = few_vertices_of scale in
    let most_faces = few_faces_of scale in
    record {
      is_mesh = record {
        vertex_ids = λ v e. of_live ps v e;
        face_ids = λ f e. let ids = of_live (map corners_of fs) f e in omega (arith, ids, length-map fs corners_of);
        solid_ids = λ v h. let none = none_in_empty (Unit {0}) v in cc;
        live_corners = corners_live scale ps fs none.corners;
        different_corners = corners_different scale ps fs none.once;
        different_faces = faces_different scale ps fs none.single;
      };
      limits = record {
        vertices = few_vertices scale ps fs none.vertices;
        faces = few_faces scale ps fs none.faces;
        greatest = (few_vertices_of scale, few_faces_of scale);
        vertex_ids = omega arith;
        face_ids = omega arith;
      };
    }

pub map_push : {A B : Type 0} (g : A → B) (xs : List A) (x : A) → map g (xs ++ x ∷ []) ≡ map g xs ++ g x ∷ []
map_push g [] x = refl
map_push g (y ∷ xs) x = ap (λ ys. g y ∷ ys) (map_push g xs x)

-- one more point
pub mesh_under-point : (scale : Scale) (ps : List Point) (p : Point) → with_vertex (mesh_under scale ps []) p ≡ mesh_under scale (ps ++ p ∷ []) []
mesh_under-point scale ps p =
    let more : (length ps + 1) + 1 ≡ length (ps ++ p ∷ []) + 1 = omega (arith, length-append ps (p ∷ [])) in
    λ i. record { points = sym (pushed ps p) i; faces = finite.from_entries []; solid = finite.empty; next_vertex = more i; next_face = 0 + 1; limits = limits_of scale }

-- one more face
pub mesh_under-face : (scale : Scale) (ps : List Point) (fs : Faces) (l : List ℕ) → with_face (mesh_under scale ps fs) (corners_of l) ≡ mesh_under scale ps (fs ++ l ∷ [])
mesh_under-face scale ps fs l =
    let more : (length fs + 1) + 1 ≡ length (fs ++ l ∷ []) + 1 = omega (arith, length-append fs (l ∷ [])) in
    let id : length (map corners_of fs) + 1 ≡ length fs + 1 = ap (λ n. n + 1) (length-map fs corners_of) in
    let faces : finite.insert (finite.from_entries {R = nat_cmp} (enumerate_from 1 (map corners_of fs))) (length fs + 1) (corners_of l) ≡ finite.from_entries (enumerate_from 1 (map corners_of (fs ++ l ∷ []))) =
    ap (λ k. finite.insert (finite.from_entries {R = nat_cmp} (enumerate_from 1 (map corners_of fs))) k (corners_of l)) (sym id)
    ∙ sym (pushed (map corners_of fs) (corners_of l))
    ∙ ap (λ cs. finite.from_entries (enumerate_from 1 cs)) (sym (map_push corners_of fs l)) in
    λ i. record { points = finite.from_entries (enumerate_from 1 ps); faces = faces i; solid = finite.empty; next_vertex = length ps + 1; next_face = more i; limits = limits_of scale }
