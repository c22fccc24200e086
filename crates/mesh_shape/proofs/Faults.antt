-- A fault of lists names what is at fault in their mesh, and a mesh that is sound and closed has none.
use Rattle.std.proofs.Common.{◌≡◌, ◌≢◌, ℕ, zero, suc, ◌+◌, ◌<◌, ◌≤◌, ◌==◌, ◌&&◌, ◌||◌, not, Bool, true, false, cond, List, [], ◌∷◌, Option, Some, None, IsSome, map, length, nat_lt, nat_le, slice_get, if◌then◌else◌, option_map, refl, sym, ap, subst, ◌∙◌, ◌⊎◌, inl, inr, ⊎_elim, arith}
use Rattle.mesh_base.proofs.Tests.{not_both}
use Rattle.std.specs.Option.{option_or}
use Rattle.std.specs.List.{filter, position_from, enumerate_from}
use Rattle.std.specs.FinMap as finite
use Rattle.std.specs.FinMap.{get-from_entries}
use Rattle.std.specs.Ordering.{nat_cmp}
use Rattle.std.specs.Cmp.{nat_cmp_total}
use Rattle.std.proofs.lemmas.List.{length-map}
use Rattle.std.proofs.lemmas.List.Sums.{length-filter}
use Rattle.std.proofs.lemmas.Bool.{false≢true, eq-eqb}
use Rattle.std.proofs.lemmas.Bool.Decides.{nat_tests}
use Rattle.mesh_base.specs.declared.limits.Scale.{Scale}
use Rattle.mesh_base.specs.Limits.{limits_of}
use Rattle.grid_base.specs.declared.Point.{Point}
use Rattle.mesh_base.specs.declared.ids.Corners.{Corners}
use Rattle.mesh_base.specs.declared.faults.ShapeFault.{ShapeFault}
use Rattle.mesh_base.specs.declared.faults.ShapeFault.TheVariants.{TooManyVertices, TooManyFaces, NoVertex, Repeated, Doubled, Unbalanced}
use Rattle.mesh_base.specs.Mesh.{Mesh, IsSound, IsLiveVertex, AreLive, AreDifferent, HasCorners, equal_up_to_rotation}
use Rattle.mesh_base.specs.Sides.{follows, runs, IsClosed}
use Rattle.mesh_base.specs.Changes.{corners_of, corner_list}
use Rattle.mesh_base.specs.Given.{Faces, mesh_under}
use Rattle.mesh_base.proofs.Ordered.{entries-of_sorted}
use Rattle.mesh_base.proofs.ListLaws.{found_passes}
use Rattle.mesh_shape.specs.Shape.{is_vertex, bad_corner, no_vertex_from, repeats, repeated_from, doubled_from, runs_in, first_unbalanced, fault_but_balance, shape_fault, Denied, IsAtFault}
use Rattle.mesh_shape.proofs.Lists.{numbered, sorted_numbers, len_numbered, of_live, none_of, none_mapped, first_false, no_fault_but_balance}
use Rattle.mesh_shape.proofs.AllBalanced.{all_balanced}

-- ---- options
pub some_of : {A : Type 0} (x y : Option A) (a : A) → option_or x y ≡ Some a → (x ≡ Some a) ⊎ (y ≡ Some a)
some_of None y a h = inr h
some_of (Some x) y a h = inl h

pub tested : {A : Type 0} (b : Bool) (x a : A) → (if b then Some x else None) ≡ Some a → (b ≡ true) × (x ≡ a)
tested true x a h = (refl, cc)
tested false x a h = cc

pub mapped : {A B : Type 0} (g : A → B) (o : Option A) (b : B) → option_map g o ≡ Some b → (a : A) × (o ≡ Some a) × (g a ≡ b)
mapped g None b h = cc
mapped g (Some a) b h = (a, refl, cc)

-- ---- faces of the list in the mesh
got_mapped : {A B : Type 0} (g : A → B) (xs : List A) (i : ℕ) (x : A) → slice_get xs i ≡ Some x → slice_get (map g xs) i ≡ Some (g x)
got_mapped g [] i x h = cc
got_mapped g (y ∷ xs) zero x h = ap (option_map g) h
got_mapped g (y ∷ xs) (suc i) x h = got_mapped g xs i x h

has_face : (scale : Scale) (ps : List Point) (fs : Faces) (i : ℕ) (l : List ℕ) → slice_get fs i ≡ Some l → HasCorners (mesh_under scale ps fs) (i + 1) (corners_of l)
has_face scale ps fs i l h =
    get-from_entries nat_cmp_total (enumerate_from 1 (map corners_of fs)) (i + 1)
    ∙ numbered 1 i (i + 1) (map corners_of fs) (omega arith)
    ∙ got_mapped corners_of fs i l h

counted : {A : Type 0} (k : ℕ) (test : Corners → Bool) (g : A → Corners) (xs : List A) → length (filter (λ e. test e.1) (enumerate_from k (map g xs))) ≡ length (filter (λ x. test (g x)) xs)
counted k test g [] = refl
counted k test g (x ∷ xs) = by_test (counted (k + 1) test g xs) (test (g x))
  where
    by_test : length (filter (λ e. test e.1) (enumerate_from (k + 1) (map g xs))) ≡ length (filter (λ y. test (g y)) xs) → (b : Bool) → length (cond b ((k, g x) ∷ filter (λ e. test e.1) (enumerate_from (k + 1) (map g xs))) (filter (λ e. test e.1) (enumerate_from (k + 1) (map g xs)))) ≡ length (cond b (x ∷ filter (λ y. test (g y)) xs) (filter (λ y. test (g y)) xs))
    by_test rest true = ap suc rest
    by_test rest false = rest

-- the faces of the mesh run as often as those of the list
pub runs_given : (scale : Scale) (ps : List Point) (fs : Faces) (u v : ℕ) → runs (mesh_under scale ps fs) u v ≡ runs_in fs u v
runs_given scale ps fs u v =
    length-map (filter (λ e. follows e.1 u v) (finite.entries (mesh_under scale ps fs).faces)) (λ e. e.0)
    ∙ ap (λ es. length (filter (λ e. follows e.1 u v) es)) (entries-of_sorted (enumerate_from 1 (map corners_of fs)) (sorted_numbers 1 (map corners_of fs)))
    ∙ counted 1 (λ c. follows c u v) corners_of fs
    ∙ length-filter (λ f. follows (corners_of f) u v) fs

-- ---- each fault
bad_there : (n k : ℕ) (fs : Faces) (p : ℕ × ℕ) → no_vertex_from n k fs ≡ Some p → (i : ℕ) × (l : List ℕ) × (p.0 ≡ k + i) × (slice_get fs i ≡ Some l) × (bad_corner n (corners_of l) ≡ Some p.1)
bad_there n k [] p h = cc
bad_there n k (f ∷ fs) p h = ⊎_elim
    (λ here.
    let found = mapped _ (bad_corner n (corners_of f)) p here in
    let number : k ≡ p.0 = ap (λ q. q.0) found.2 in
    (0, f, omega (arith, number), refl, found.1 ∙ ap Some (ap (λ q. q.1) found.2)))
    (λ later. let found = bad_there n (k + 1) fs p later in (suc found.0, found.1, omega (arith, found.2), found.3, found.4))
    (some_of (option_map (λ corner. (k, corner)) (bad_corner n (corners_of f))) _ p h)

passes_there : (p : List ℕ → Bool) (k : ℕ) (fs : Faces) (j : ℕ) → position_from p k fs ≡ Some j → (i : ℕ) × (l : List ℕ) × (j ≡ k + i) × (slice_get fs i ≡ Some l) × (p l ≡ true)
passes_there p k [] j h = cc
passes_there p k (f ∷ fs) j h = by_test (passes_there p (k + 1) fs j) (p f) refl h
  where
    by_test : (position_from p (k + 1) fs ≡ Some j → (i : ℕ) × (l : List ℕ) × (j ≡ (k + 1) + i) × (slice_get fs i ≡ Some l) × (p l ≡ true)) → (b : Bool) → p f ≡ b → cond b (Some k) (position_from p (k + 1) fs) ≡ Some j → (i : ℕ) × (l : List ℕ) × (j ≡ k + i) × (slice_get (f ∷ fs) i ≡ Some l) × (p l ≡ true)
    by_test rest true e h = let number : k ≡ j = cc in (0, f, omega (arith, number), refl, e)
    by_test rest false e h = let found = rest h in (suc found.0, found.1, omega (arith, found.2), found.3, found.4)

equal_there : (k : ℕ) (fs : Faces) (p : ℕ × ℕ) → doubled_from k fs ≡ Some p → (i : ℕ) × (j : ℕ) × (l : List ℕ) × (r : List ℕ) × (p.0 ≡ k + i) × (p.1 ≡ k + j) × (i < j) × (slice_get fs i ≡ Some l) × (slice_get fs j ≡ Some r) × (equal_up_to_rotation (corners_of l) (corners_of r) ≡ true)
equal_there k [] p h = cc
equal_there k (f ∷ fs) p h = ⊎_elim
    (λ here.
    let found = mapped _ (position_from (λ g. equal_up_to_rotation (corners_of f) (corners_of g)) (k + 1) fs) p here in
    let second = passes_there (λ g. equal_up_to_rotation (corners_of f) (corners_of g)) (k + 1) fs found.0 found.1 in
    let one : k ≡ p.0 = ap (λ q. q.0) found.2 in
    let two : found.0 ≡ p.1 = ap (λ q. q.1) found.2 in
    (0, suc second.0, f, second.1, omega (arith, one), omega (arith, two, second.2), omega arith, refl, second.3, second.4))
    (λ later. let found = equal_there (k + 1) fs p later in (suc found.0, suc found.1, found.2, found.3, omega (arith, found.4), omega (arith, found.5), omega (arith, found.6), found.7, found.8, found.9))
    (some_of (option_map (λ second. (k, second)) (position_from (λ g. equal_up_to_rotation (corners_of f) (corners_of g)) (k + 1) fs)) _ p h)

more_than : (limit n : ℕ) → nat_lt limit n ≡ true → limit < n
more_than limit n h = grind (arith, nat_tests)

vertex_of_live : (ps : List Point) (v : ℕ) → IsSome (finite.get (finite.from_entries {R = nat_cmp} (enumerate_from 1 ps)) v) → is_vertex (length ps) v ≡ true
vertex_of_live ps v h = let bounds = of_live ps v h in within (length ps) v bounds.0 bounds.1
  where
    within : (n v : ℕ) → 1 ≤ v → v < n + 1 → (nat_le 1 v && nat_le v n) ≡ true
    within n v h h' = grind (arith, nat_tests)

-- the corner that is no vertex
bad_one : (n : ℕ) (c : Corners) (k : ℕ) → bad_corner n c ≡ Some k → (i : ℕ) × (v : ℕ) × (k ≡ i + 1) × (slice_get (corner_list c) i ≡ Some v) × (is_vertex n v ≡ false)
bad_one n c k h = tests (is_vertex n c.first) (is_vertex n c.second) (is_vertex n c.third) refl refl refl h
  where
    tests : (p q r : Bool) → is_vertex n c.first ≡ p → is_vertex n c.second ≡ q → is_vertex n c.third ≡ r → first_false p q r ≡ Some k
        → (i : ℕ) × (v : ℕ) × (k ≡ i + 1) × (slice_get (corner_list c) i ≡ Some v) × (is_vertex n v ≡ false)
    tests true true true a b d h = cc
    tests true true false a b d h = let number : 3 ≡ k = cc in (2, c.third, omega (arith, number), refl, d)
    tests true false r a b d h = let number : 2 ≡ k = cc in (1, c.second, omega (arith, number), refl, b)
    tests false q r a b d h = let number : 1 ≡ k = cc in (0, c.first, omega (arith, number), refl, a)

apart : (c : Corners) → AreDifferent c → repeats c ≡ false
apart c h = three c.first c.second c.third h.first_second h.second_third h.third_first
  where
    three : (a b d : ℕ) → a ≢ b → b ≢ d → d ≢ a → ((a == b) || (b == d) || (d == a)) ≡ false
    three a b d h h' h'' = grind (arith, nat_tests)

-- what a fault names is at fault
pub at_fault : (scale : Scale) (ps : List Point) (fs : Faces) (fault : ShapeFault) → shape_fault scale (length ps) fs ≡ Some fault → IsAtFault fault (mesh_under scale ps fs)
at_fault scale ps fs fault h =
    ⊎_elim (λ e0.
    ⊎_elim (λ e1. let t = tested (nat_lt (limits_of scale).vertices (length ps)) _ fault e1 in same _ t.1 (sym (len_numbered ps), more_than (limits_of scale).vertices (length ps) t.0))
    (λ e1'. ⊎_elim (λ e2. let t = tested (nat_lt (limits_of scale).faces (length fs)) _ fault e2 in same _ t.1 (sym (len_numbered (map corners_of fs) ∙ length-map fs corners_of), more_than (limits_of scale).faces (length fs) t.0))
    (λ e2'. ⊎_elim (λ e3. let t = mapped _ (no_vertex_from (length ps) 1 fs) fault e3 in same _ t.2 (no_vertex t.0 t.1))
    (λ e3'. ⊎_elim (λ e4. let t = mapped _ (repeated_from 1 fs) fault e4 in same _ t.2 (twice t.0 t.1))
    (λ e4'. let t = mapped _ (doubled_from 1 fs) fault e4' in same _ t.2 (double t.0 t.1))
    (some_of (option_map (λ face. Repeated face) (repeated_from 1 fs)) _ fault e3'))
    (some_of (option_map (λ p. NoVertex p.0 p.1) (no_vertex_from (length ps) 1 fs)) _ fault e2'))
    (some_of (if nat_lt (limits_of scale).faces (length fs) then Some (TooManyFaces (length fs)) else None) _ fault e1'))
    (some_of (if nat_lt (limits_of scale).vertices (length ps) then Some (TooManyVertices (length ps)) else None) _ fault e0))
    (λ e0'. let t = mapped _ (first_unbalanced (length ps) fs) fault e0' in same _ t.2 (unbalanced t.0 t.1))
    (some_of (fault_but_balance scale (length ps) fs) _ fault h)
  where
    m : Mesh
    m = mesh_under scale ps fs

    same : (g : ShapeFault) → g ≡ fault → IsAtFault g m → IsAtFault fault m
    same g is h = subst (λ x. IsAtFault x m) is h

    face_at : (i f : ℕ) (l : List ℕ) → f ≡ 1 + i → slice_get fs i ≡ Some l → HasCorners m f (corners_of l)
    face_at i f l number e = let turned : i + 1 ≡ f = omega (arith, number) in subst (λ g. HasCorners m g (corners_of l)) turned (has_face scale ps fs i l e)

    no_vertex : (p : ℕ × ℕ) → no_vertex_from (length ps) 1 fs ≡ Some p → IsAtFault (NoVertex p.0 p.1) m
    no_vertex p e =
        let at = bad_there (length ps) 1 fs p e in
        let bad = bad_one (length ps) (corners_of at.1) p.1 at.4 in
        (corners_of at.1, bad.0, bad.1, face_at at.0 p.0 at.1 at.2 at.3, bad.2, bad.3, λ live. not_both (vertex_of_live ps bad.1 live) bad.4)

    twice : (k : ℕ) → repeated_from 1 fs ≡ Some k → IsAtFault (Repeated k) m
    twice k e =
        let at = passes_there (λ f. repeats (corners_of f)) 1 fs k e in
        (corners_of at.1, face_at at.0 k at.1 at.2 at.3, λ different. not_both at.4 (apart (corners_of at.1) different))

    double : (p : ℕ × ℕ) → doubled_from 1 fs ≡ Some p → IsAtFault (Doubled p.0 p.1) m
    double p e =
        let at = equal_there 1 fs p e in
        (corners_of at.2, corners_of at.3, face_at at.0 p.0 at.2 at.4 at.7, face_at at.1 p.1 at.3 at.5 at.8, at.9, omega (arith, at.4, at.5, at.6))

    unbalanced : (p : ℕ × ℕ) → first_unbalanced (length ps) fs ≡ Some p → IsAtFault (Unbalanced p.0 p.1) m
    unbalanced p e equal =
        let differ = found_passes (λ q. not (runs_in fs q.0 q.1 == runs_in fs q.1 q.0)) _ p e in
        let balanced : runs_in fs p.0 p.1 ≡ runs_in fs p.1 p.0 = sym (runs_given scale ps fs p.0 p.1) ∙ equal ∙ runs_given scale ps fs p.1 p.0 in
        false≢true (ap not (sym (eq-eqb _ _ balanced)) ∙ differ)

corner_live : (m : Mesh) (c : Corners) (i v : ℕ) → AreLive m c → slice_get (corner_list c) i ≡ Some v → IsLiveVertex m v
corner_live m c zero v live e = let same : c.first ≡ v = cc in subst (IsLiveVertex m) same live.0
corner_live m c (suc zero) v live e = let same : c.second ≡ v = cc in subst (IsLiveVertex m) same live.1
corner_live m c (suc (suc zero)) v live e = let same : c.third ≡ v = cc in subst (IsLiveVertex m) same live.2
corner_live m c (suc (suc (suc i))) v live e = cc

-- so what it denies does not hold
denied : (m : Mesh) (fault : ShapeFault) → IsAtFault fault m → ¬ (Denied fault m)
denied m (TooManyVertices count) at few = omega (arith, at.0, at.1, few)
denied m (TooManyFaces count) at few = omega (arith, at.0, at.1, few)
denied m (NoVertex face corner) at all = at.6 (corner_live m at.0 at.1 at.2 (all face at.0 at.3) at.5)
denied m (Repeated face) at all = at.2 (all face at.0 at.1)
denied m (Doubled first second) at all = let same = all first second at.0 at.1 at.2 at.3 at.4 in omega (arith, same, at.5)
denied m (Unbalanced from to) at closed = at (closed from to)

-- lists of good shape make a closed mesh
pub closed-mesh_under : (scale : Scale) (ps : List Point) (fs : Faces) → shape_fault scale (length ps) fs ≡ None → IsClosed (mesh_under scale ps fs)
closed-mesh_under scale ps fs h u v = runs_given scale ps fs u v ∙ all_balanced (length ps) fs vertices none_found u v ∙ sym (runs_given scale ps fs v u)
  where
    vertices : no_vertex_from (length ps) 1 fs ≡ None
    vertices = (no_fault_but_balance scale (length ps) fs (none_of (fault_but_balance scale (length ps) fs) _ h).0).corners

    none_found : first_unbalanced (length ps) fs ≡ None
    none_found = none_mapped _ _ (none_of (fault_but_balance scale (length ps) fs) _ h).1

-- all that a fault may deny
all_hold : (m : Mesh) → IsSound m → IsClosed m → (fault : ShapeFault) → Denied fault m
all_hold m sound closed (TooManyVertices count) = sound.limits.vertices
all_hold m sound closed (TooManyFaces count) = sound.limits.faces
all_hold m sound closed (NoVertex face corner) = sound.is_mesh.live_corners
all_hold m sound closed (Repeated face) = sound.is_mesh.different_corners
all_hold m sound closed (Doubled first second) = sound.is_mesh.different_faces
all_hold m sound closed (Unbalanced from to) = closed

-- lists whose mesh is sound and closed have no fault
pub no_fault : (scale : Scale) (ps : List Point) (fs : Faces) → IsSound (mesh_under scale ps fs) → IsClosed (mesh_under scale ps fs) → shape_fault scale (length ps) fs ≡ None
no_fault scale ps fs sound closed = by_fault (shape_fault scale (length ps) fs) refl
  where
    by_fault : (o : Option ShapeFault) → shape_fault scale (length ps) fs ≡ o → o ≡ None
    by_fault None e = refl
    by_fault (Some fault) e = absurd (denied (mesh_under scale ps fs) fault (at_fault scale ps fs fault e) (all_hold (mesh_under scale ps fs) sound closed fault))
