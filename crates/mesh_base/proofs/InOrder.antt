-- Lists in order: the keys of a finite map, the edges of a mesh, and its pairs.
use Rattle.std.proofs.Common.{◌≡◌, ℕ, ◌||◌, not, T, List, [], ◌∷◌, ◌++◌, map, nat_lt, refl, ap, ◌∙◌, arith}
use Rattle.std.specs.List.{filter, flat_map, AllByRecursion}
use Rattle.std.specs.List.Sorted.{IsStrictlySortedBy}
use Rattle.std.specs.Ordering.{nat_cmp, is_lt, ordering_then}
use Rattle.std.specs.declared.cmp.Ordering.{Ordering}
use Rattle.std.specs.declared.cmp.Ordering.TheVariants.{Less, Equal, Greater}
use Rattle.std.specs.Cmp.{nat_cmp_total, on_total, then_total, IsTotalOrder}
use Rattle.std.specs.FinMap as finite
use Rattle.std.specs.FinMap.{entries_sorted}
use Rattle.std.specs.FinMap.Entries.{is_sorted, below_all}
use Rattle.std.proofs.lemmas.Bool.Decides.{nat_tests}
use Rattle.std.proofs.lemmas.List.Kept.{IsStrictlySortedBy-filter}
use Rattle.mesh_base.specs.declared.ids.PairName.{PairName}
use Rattle.mesh_base.specs.Mesh.{Mesh}
use Rattle.mesh_base.specs.Sides.{has_corner}
use Rattle.mesh_base.specs.SideList.{edge_cmp}
use Rattle.mesh_base.specs.Pairs.{Pair, is_edge, id_pairs, edges, pairs_of, pairs, name_cmp}
use Rattle.mesh_base.proofs.ListedPairs.{all_joined, all_flat_mapped, all_mapped, all_weaker, all_always}
use Rattle.mesh_base.proofs.WalkSteps.{both_of}

-- ---- lists that are made of lists in order
sorted_joined : {X : Type 0} (R : X → X → Ordering) (xs ys : List X) → IsStrictlySortedBy R xs → IsStrictlySortedBy R ys → AllByRecursion (λ x. AllByRecursion (λ y. R x y ≡ Less) ys) xs → IsStrictlySortedBy R (xs ++ ys)
unfolding IsStrictlySortedBy
sorted_joined R [] ys h h' across = h'
sorted_joined R (x ∷ xs) ys h h' across = (all_joined (λ y. R x y ≡ Less) xs ys h.0 across.0, sorted_joined R xs ys h.1 h' across.1)

pub sorted_mapped : {X Y : Type 0} (R : X → X → Ordering) (S : Y → Y → Ordering) (f : X → Y) (xs : List X) → ((x y : X) → R x y ≡ Less → S (f x) (f y) ≡ Less) → IsStrictlySortedBy R xs → IsStrictlySortedBy S (map f xs)
unfolding IsStrictlySortedBy
sorted_mapped R S f [] less h = tt
sorted_mapped R S f (x ∷ xs) less h = (all_mapped (λ y. S (f x) y ≡ Less) f xs (all_weaker (λ y. R x y ≡ Less) (λ y. S (f x) (f y) ≡ Less) xs (less x) h.0), sorted_mapped R S f xs less h.1)

-- rows in order, each with the item that it is made of at the head of all that is in it
sorted_rows : {X Y : Type 0} (S : X → X → Ordering) (R : Y → Y → Ordering) (row : X → List Y) (head : Y → X) (xs : List X)
    → ((x : X) → IsStrictlySortedBy R (row x)) → ((x : X) → AllByRecursion (λ y. head y ≡ x) (row x)) → ((y z : Y) → S (head y) (head z) ≡ Less → R y z ≡ Less)
    → IsStrictlySortedBy S xs → IsStrictlySortedBy R (flat_map row xs)
unfolding IsStrictlySortedBy
sorted_rows S R row head [] each headed less h = tt
sorted_rows {X} {Y} S R row head (x ∷ xs) each headed less h =
    sorted_joined R (row x) (flat_map row xs) (each x) (sorted_rows S R row head xs each headed less h.1)
    (all_weaker (λ y. head y ≡ x) (λ y. AllByRecursion (λ z. R y z ≡ Less) (flat_map row xs)) (row x) before_rest (headed x))
  where
    before_row : (y : Y) → head y ≡ x → (w : X) → S x w ≡ Less → AllByRecursion (λ z. R y z ≡ Less) (row w)
    before_row y of_x w above = all_weaker (λ z. head z ≡ w) (λ z. R y z ≡ Less) (row w) (λ z of_w. less y z (ap (λ k. S k (head z)) of_x ∙ ap (S x) of_w ∙ above)) (headed w)

    before_rest : (y : Y) → head y ≡ x → AllByRecursion (λ z. R y z ≡ Less) (flat_map row xs)
    before_rest y of_x = all_flat_mapped (λ z. R y z ≡ Less) row xs (all_weaker (λ w. S x w ≡ Less) (λ w. AllByRecursion (λ z. R y z ≡ Less) (row w)) xs (before_row y of_x) h.0)

-- ---- the keys of a finite map
is_less : (o : Ordering) → T (is_lt o) → o ≡ Less
is_less Less h = refl
is_less Equal h = absurd h
is_less Greater h = absurd h

abbrev by_key : {X : Type 0} → ℕ × X → ℕ × X → Ordering
by_key d e = nat_cmp d.0 e.0

all_above : {X : Type 0} (d : ℕ × X) (es : List (ℕ × X)) → T (below_all nat_cmp d.0 es) → AllByRecursion (λ e. by_key d e ≡ Less) es
all_above d [] h = tt
all_above d (e ∷ es) h = let parts = both_of (is_lt (nat_cmp d.0 e.0)) (below_all nat_cmp d.0 es) h in (is_less (nat_cmp d.0 e.0) parts.0, all_above d es parts.1)

entries_in_order : {X : Type 0} (es : List (ℕ × X)) → T (is_sorted nat_cmp es) → IsStrictlySortedBy by_key es
unfolding IsStrictlySortedBy
entries_in_order [] h = tt
entries_in_order (e ∷ es) h = let parts = both_of (below_all nat_cmp e.0 es) (is_sorted nat_cmp es) h in (all_above e es parts.0, entries_in_order es parts.1)

pub keys_sorted : {X : Type 0} (es : List (ℕ × X)) → T (is_sorted nat_cmp es) → IsStrictlySortedBy nat_cmp (map (λ e. e.0) es)
keys_sorted es h = sorted_mapped by_key nat_cmp (λ e. e.0) es (λ d e less. less) (entries_in_order es h)

-- ---- the edges
pub edge_total : IsTotalOrder edge_cmp
edge_total = then_total (on_total (λ (x : ℕ × ℕ). x.0) nat_cmp_total) (on_total (λ (x : ℕ × ℕ). x.1) nat_cmp_total)

tied : (u : ℕ) → nat_cmp u u ≡ Equal
tied u = grind (arith, nat_tests)

less_second : (u v w : ℕ) → nat_cmp v w ≡ Less → edge_cmp (u, v) (u, w) ≡ Less
less_second u v w h = ap (λ o. ordering_then o (nat_cmp v w)) (tied u) ∙ h

id_pairs_sorted : (ids : List ℕ) → IsStrictlySortedBy nat_cmp ids → IsStrictlySortedBy edge_cmp (id_pairs ids)
id_pairs_sorted ids h = sorted_rows nat_cmp edge_cmp row (λ e. e.0) ids each headed (λ d e less. ap (λ o. ordering_then o (nat_cmp d.1 e.1)) less) h
  where
    row : ℕ → List (ℕ × ℕ)
    row u = map (λ v. (u, v)) (filter (λ v. nat_lt u v) ids)

    each : (u : ℕ) → IsStrictlySortedBy edge_cmp (map (λ v. (u, v)) (filter (λ v. nat_lt u v) ids))
    each u = sorted_mapped nat_cmp edge_cmp (λ v. (u, v)) (filter (λ v. nat_lt u v) ids) (less_second u) (IsStrictlySortedBy-filter nat_cmp (λ v. nat_lt u v) ids h)

    headed : (u : ℕ) → AllByRecursion (λ (e : ℕ × ℕ). e.0 ≡ u) (map (λ v. (u, v)) (filter (λ v. nat_lt u v) ids))
    headed u = all_mapped (λ (e : ℕ × ℕ). e.0 ≡ u) (λ v. (u, v)) (filter (λ v. nat_lt u v) ids) (all_always (λ v. u ≡ u) (filter (λ v. nat_lt u v) ids) (λ v. refl))

pub edges_sorted : (m : Mesh) → IsStrictlySortedBy edge_cmp (edges m)
edges_sorted m = IsStrictlySortedBy-filter edge_cmp (λ e. is_edge m e.0 e.1) (id_pairs (finite.keys m.points)) (id_pairs_sorted (finite.keys m.points) (keys_sorted (finite.entries m.points) (entries_sorted m.points)))

-- ---- the pairs
abbrev pub by_name : Pair → Pair → Ordering
by_name p q = name_cmp p.name q.name

tied_edge : (a b : ℕ) → edge_cmp (a, b) (a, b) ≡ Equal
tied_edge a b = ap (λ o. ordering_then o (nat_cmp b b)) (tied a) ∙ tied b

pub pairs_sorted : (m : Mesh) → IsStrictlySortedBy by_name (pairs m)
pairs_sorted m = sorted_rows edge_cmp by_name (pairs_of m) (λ p. (p.name.a, p.name.b)) (edges m) each headed (λ p q less. ap (λ o. ordering_then o (nat_cmp p.name.face q.name.face)) less) (edges_sorted m)
  where
    each : (e : ℕ × ℕ) → IsStrictlySortedBy by_name (pairs_of m e)
    each e = sorted_mapped by_key by_name (λ f. record { name = record { a = e.0; b = e.1; face = f.0 }; corners = f.1 }) (filter (λ f. not (has_corner f.1 e.0 || has_corner f.1 e.1)) (finite.entries m.faces))
        (λ f g less. ap (λ o. ordering_then o (nat_cmp f.0 g.0)) (tied_edge e.0 e.1) ∙ less)
        (IsStrictlySortedBy-filter by_key (λ f. not (has_corner f.1 e.0 || has_corner f.1 e.1)) (finite.entries m.faces) (entries_in_order (finite.entries m.faces) (entries_sorted m.faces)))

    headed : (e : ℕ × ℕ) → AllByRecursion (λ (p : Pair). (p.name.a, p.name.b) ≡ e) (pairs_of m e)
    headed e = all_mapped (λ (p : Pair). (p.name.a, p.name.b) ≡ e) (λ f. record { name = record { a = e.0; b = e.1; face = f.0 }; corners = f.1 }) (filter (λ f. not (has_corner f.1 e.0 || has_corner f.1 e.1)) (finite.entries m.faces))
        (all_always (λ f. (e.0, e.1) ≡ e) (filter (λ f. not (has_corner f.1 e.0 || has_corner f.1 e.1)) (finite.entries m.faces)) (λ f. refl))

-- the order of names is total
pub name_total : IsTotalOrder name_cmp
name_total = then_total (on_total (λ (n : PairName). (n.a, n.b)) edge_total) (on_total (λ (n : PairName). n.face) nat_cmp_total)

pub names_sorted : (m : Mesh) → IsStrictlySortedBy name_cmp (map (λ p. p.name) (pairs m))
names_sorted m = sorted_mapped by_name name_cmp (λ p. p.name) (pairs m) (λ p q less. less) (pairs_sorted m)
