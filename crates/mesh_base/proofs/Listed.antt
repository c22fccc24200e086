-- What holds of each pair in the list of pairs holds of every pair.
use Rattle.std.proofs.Common.{◌≡◌, ℕ, zero, suc, ◌<◌, ◌+◌, Bool, true, false, cond, ◌&&◌, ◌||◌, ◌==◌, not, T, List, [], ◌∷◌, ◌++◌, map, length, Option, Some, None, IsSome, nat_lt, ◌⊎◌, ⊎_elim, inl, inr, refl, sym, ap, subst, ◌∙◌, arith}
use Rattle.std.proofs.lemmas.Bool.{false≢true, lt-ltb}
use Rattle.std.proofs.lemmas.Bool.{eqb-true}
use Rattle.std.proofs.lemmas.Bool.Decides.{nat_tests}
use Rattle.std.proofs.lemmas.Map.Lookups.{exact_unsigned}
use Rattle.std.proofs.lemmas.Map.Views.{tells_apart}
use Rattle.std.specs.Ordering.{nat_cmp, is_lt, eq_by_cmp}
use Rattle.std.specs.Cmp.{unsigned_tied}
use Rattle.std.specs.List.{filter, flat_map, AllByRecursion}
use Rattle.std.specs.FinMap as finite
use Rattle.std.specs.FinMap.{FinMap, entries_sorted, get-entries}
use Rattle.std.specs.FinMap.Entries.{find, is_sorted, below_all}
use Rattle.mesh_base.specs.declared.ids.Corners.{Corners}
use Rattle.mesh_base.specs.Mesh.{Mesh, IsSound, IsLiveVertex, HasCorners}
use Rattle.mesh_base.specs.Sides.{follows, has_corner, ids_where, runs, IsEdge}
use Rattle.mesh_base.specs.Pairs.{Pair, IsPair, is_edge, id_pairs, edges, pairs_of, pairs}
use Rattle.mesh_base.proofs.WalkSteps as above
use Rattle.mesh_base.proofs.WalkSteps.{both_of}
pub use Rattle.mesh_base.proofs.Tests.{and_first, and_second, or_either}

-- ---- lists
pub all_front : {X : Type 0} (P : X → Type 0) (xs ys : List X) → AllByRecursion P (xs ++ ys) → AllByRecursion P xs × AllByRecursion P ys
all_front P [] ys h = (tt, h)
all_front P (x ∷ xs) ys h = let rest = all_front P xs ys h.1 in ((h.0, rest.0), rest.1)

pub all_flat_map : {X Y : Type 0} (P : Y → Type 0) (f : X → List Y) (xs : List X) → AllByRecursion P (flat_map f xs) → AllByRecursion (λ x. AllByRecursion P (f x)) xs
all_flat_map P f [] h = tt
all_flat_map P f (x ∷ xs) h = let two = all_front P (f x) (flat_map f xs) h in (two.0, all_flat_map P f xs two.1)

pub all_map : {X Y : Type 0} (P : Y → Type 0) (f : X → Y) (xs : List X) → AllByRecursion P (map f xs) → AllByRecursion (λ x. P (f x)) xs
all_map P f [] h = tt
all_map P f (x ∷ xs) h = (h.0, all_map P f xs h.1)

pub all_filter : {X : Type 0} (P : X → Type 0) (test : X → Bool) (xs : List X) → AllByRecursion P (filter test xs) → AllByRecursion (λ x. test x ≡ true → P x) xs
all_filter P test [] h = tt
all_filter P test (x ∷ xs) h = by_test (all_filter P test xs) (test x) refl h
  where
    by_test : (AllByRecursion P (filter test xs) → AllByRecursion (λ y. test y ≡ true → P y) xs) → (b : Bool) → test x ≡ b → AllByRecursion P (cond b (x ∷ filter test xs) (filter test xs)) → (test x ≡ true → P x) × AllByRecursion (λ y. test y ≡ true → P y) xs
    by_test rest true e h = (λ yes. h.0, rest h.1)
    by_test rest false e h = (λ yes. absurd (false≢true (sym e ∙ yes)), rest h)

-- ---- maps
all_found : {X : Type 0} (P : ℕ × X → Type 0) (k : ℕ) (v : X) (es : List (ℕ × X)) → AllByRecursion P es → find nat_cmp k es ≡ Some v → P (k, v)
all_found P k v [] h e = cc
all_found P k v (x ∷ es) h e = by_test (all_found P k v es h.1) (eq_by_cmp nat_cmp k x.0) refl e
  where
    by_test : (find nat_cmp k es ≡ Some v → P (k, v)) → (b : Bool) → eq_by_cmp nat_cmp k x.0 ≡ b → cond b (Some x.1) (find nat_cmp k es) ≡ Some v → P (k, v)
    by_test rest true t e =
        let same : x.1 ≡ v = cc in
        subst (λ j. P (j, v)) (sym (tells_apart exact_unsigned k x.0 t)) (subst (λ w. P (x.0, w)) same h.0)
    by_test rest false t e = rest e

pub at_key : {X : Type 0} (P : ℕ × X → Type 0) (m : FinMap nat_cmp X) (k : ℕ) (v : X) → AllByRecursion P (finite.entries m) → finite.get m k ≡ Some v → P (k, v)
at_key P m k v h e = all_found P k v (finite.entries m) h (sym (get-entries m k) ∙ e)

pub at_live : {X : Type 0} (P : ℕ → Type 0) (m : FinMap nat_cmp X) (k : ℕ) → AllByRecursion P (finite.keys m) → IsSome (finite.get m k) → P k
at_live {X} P m k h live = by_answer (finite.get m k) refl live
  where
    by_answer : (o : Option X) → finite.get m k ≡ o → IsSome o → P k
    by_answer (Some v) e live = at_key (λ e. P e.0) m k v (all_map P (λ e. e.0) (finite.entries m) h) e
    by_answer None e live = absurd (false≢true live)

-- each entry is found at its key
apart_from : (k x : ℕ) → T (is_lt (nat_cmp k x)) → eq_by_cmp nat_cmp x k ≡ false
apart_from k x h = unsigned_tied x k ∙ untied (above.less_true k x h)
  where
    untied : nat_lt k x ≡ true → (x == k) ≡ false
    untied h = grind (arith, nat_tests)

found_behind : {X : Type 0} (whole : List (ℕ × X)) (head : ℕ × X) (es : List (ℕ × X)) → T (below_all nat_cmp head.0 es) → AllByRecursion (λ e. find nat_cmp e.0 whole ≡ Some e.1) es → AllByRecursion (λ e. find nat_cmp e.0 (head ∷ whole) ≡ Some e.1) es
found_behind whole head [] below h = tt
found_behind whole head (e ∷ es) below h =
    let parts = both_of _ _ below in
    (ap (λ b. cond b (Some head.1) (find nat_cmp e.0 whole)) (apart_from head.0 e.0 parts.0) ∙ h.0, found_behind whole head es parts.1 h.1)

tied_itself : (k : ℕ) → eq_by_cmp nat_cmp k k ≡ true
tied_itself k = unsigned_tied k k ∙ same k
  where
    same : (k : ℕ) → (k == k) ≡ true
    same k = grind (arith, nat_tests)

pub each_found : {X : Type 0} (es : List (ℕ × X)) → T (is_sorted nat_cmp es) → AllByRecursion (λ e. find nat_cmp e.0 es ≡ Some e.1) es
each_found [] s = tt
each_found (e ∷ es) s =
    let parts = both_of (below_all nat_cmp e.0 es) _ s in
    (ap (λ b. cond b (Some e.1) (find nat_cmp e.0 es)) (tied_itself e.0), found_behind es e es parts.0 (each_found es parts.1))

-- ---- edges
some_running : (Q : ℕ × Corners → Type 0) (test : Corners → Bool) (es : List (ℕ × Corners)) → AllByRecursion Q es → 0 < length (ids_where test es) → (e : ℕ × Corners) × (test e.1 ≡ true) × Q e
some_running Q test [] h some = absurd (omega arith)
some_running Q test (e ∷ es) h some = by_test (some_running Q test es h.1) (test e.1) refl some
  where
    by_test : (0 < length (ids_where test es) → (x : ℕ × Corners) × (test x.1 ≡ true) × Q x) → (b : Bool) → test e.1 ≡ b → 0 < length (map (λ x. x.0) (cond b (e ∷ filter (λ x. test x.1) es) (filter (λ x. test x.1) es))) → (x : ℕ × Corners) × (test x.1 ≡ true) × Q x
    by_test rest true t some = (e, t, h.0)
    by_test rest false t some = rest some

pub running_face : (m : Mesh) (u v : ℕ) → 0 < runs m u v → (e : ℕ × Corners) × (follows e.1 u v ≡ true) × HasCorners m e.0 e.1
running_face m u v some =
    let found = some_running (λ e. find nat_cmp e.0 (finite.entries m.faces) ≡ Some e.1) (λ c. follows c u v) (finite.entries m.faces) (each_found (finite.entries m.faces) (entries_sorted m.faces)) some in
    (found.0, found.1, get-entries m.faces (found.0).0 ∙ found.2)

ends_live : (m : Mesh) (c : Corners) (u v : ℕ) → IsLiveVertex m c.first × IsLiveVertex m c.second × IsLiveVertex m c.third → follows c u v ≡ true → IsLiveVertex m u × IsLiveVertex m v
ends_live m c u v live e =
    ⊎_elim (λ two. ⊎_elim
    (λ one. (at c.first u (and_first _ _ one) live.0, at c.second v (and_second (c.first == u) _ one) live.1))
    (λ one. (at c.second u (and_first _ _ one) live.1, at c.third v (and_second (c.second == u) _ one) live.2))
    (or_either (c.first == u && c.second == v) _ two))
    (λ one. (at c.third u (and_first _ _ one) live.2, at c.first v (and_second (c.third == u) _ one) live.0))
    (or_either ((c.first == u && c.second == v) || (c.second == u && c.third == v)) _ e)
  where
    at : (x y : ℕ) → (x == y) ≡ true → IsLiveVertex m x → IsLiveVertex m y
    at x y e h = subst (IsLiveVertex m) (eqb-true x y e) h

pub runs_live : (m : Mesh) (u v : ℕ) → IsSound m → 0 < runs m u v → IsLiveVertex m u × IsLiveVertex m v
runs_live m u v sound some =
    let face = running_face m u v some in
    ends_live m (face.0).1 u v (sound.is_mesh.live_corners (face.0).0 (face.0).1 face.2) face.1

-- the ends of an edge are live
pub edge_live : (m : Mesh) (u v : ℕ) → IsSound m → IsEdge m u v → IsLiveVertex m u × IsLiveVertex m v
edge_live m u v sound edge = ⊎_elim
    (λ some. runs_live m u v sound some)
    (λ some. let two = runs_live m v u sound some in (two.1, two.0)) (either (runs m u v) (runs m v u) edge)
  where
    either : (a b : ℕ) → 0 < a + b → (0 < a) ⊎ (0 < b)
    either zero b h = inr (omega arith)
    either (suc a) b h = inl (omega arith)

-- ---- pairs
pub neither : (a b : Bool) → a ≡ false → b ≡ false → not (a || b) ≡ true
neither a b e f = cc

-- what holds of each listed pair holds of every pair
pub listed : (m : Mesh) (P : Pair → Type 0) → IsSound m → AllByRecursion P (pairs m) → (p : Pair) → IsPair m p → P p
listed m P sound h p is_pair =
    let ids = finite.keys m.points in
    let live = edge_live m p.name.a p.name.b sound is_pair.edge in
    let of_edge : ℕ × ℕ → Type 0 = λ e. is_edge m e.0 e.1 ≡ true → AllByRecursion P (pairs_of m e) in
    let by_edge = all_filter (λ e. AllByRecursion P (pairs_of m e)) (λ e. is_edge m e.0 e.1) (id_pairs ids) (all_flat_map P (λ e. pairs_of m e) (edges m) h) in
    let by_first = at_live (λ u. AllByRecursion of_edge (map (λ v. (u, v)) (filter (λ v. nat_lt u v) ids))) m.points p.name.a
    (all_flat_map of_edge (λ u. map (λ v. (u, v)) (filter (λ v. nat_lt u v) ids)) ids by_edge) live.0 in
    let by_second = at_live (λ v. nat_lt p.name.a v ≡ true → of_edge (p.name.a, v)) m.points p.name.b
    (all_filter (λ v. of_edge (p.name.a, v)) (λ v. nat_lt p.name.a v) ids (all_map of_edge (λ v. (p.name.a, v)) (filter (λ v. nat_lt p.name.a v) ids) by_first)) live.1 in
    let here = by_second (lt-ltb _ _ is_pair.ordered) (lt-ltb _ _ is_pair.edge) in
    let apart : ℕ × Corners → Bool = λ f. not (has_corner f.1 p.name.a || has_corner f.1 p.name.b) in
    let named : ℕ × Corners → Pair = λ f. record { name = record { a = p.name.a; b = p.name.b; face = f.0 }; corners = f.1 } in
    at_key (λ f. apart f ≡ true → P (named f)) m.faces p.name.face p.corners
    (all_filter (λ f. P (named f)) apart (finite.entries m.faces) (all_map P named (filter apart (finite.entries m.faces)) here)) is_pair.face
    (neither _ _ is_pair.not_first is_pair.not_second)
