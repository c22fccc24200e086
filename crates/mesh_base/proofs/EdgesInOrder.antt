-- The sides of the faces, in order and each of them once, are the edges.
use Rattle.std.proofs.Common.{◌≡◌, ℕ, ◌+◌, ◌*◌, ◌^◌, ◌<◌, ◌≤◌, slice_index_or, ◌==◌, ◌&&◌, ◌||◌, Bool, true, false, cond, List, [], ◌∷◌, Option, Some, None, is_some, nat_lt, option_map, refl, sym, ap, subst, ◌∙◌, ◌⊎◌, ⊎_elim, arith}
use Rattle.std.specs.List.{list_any, AllByRecursion, Contains, dedup}
use Rattle.std.specs.List.Sorted.{IsStrictlySortedBy, IsSorted, IsNonDecreasingBy, IsPermutation}
use Rattle.std.specs.Ordering.{nat_cmp, is_eq, is_lt, eq_by_cmp, ordering_then}
use Rattle.std.specs.declared.cmp.Ordering.{Ordering}
use Rattle.std.specs.declared.cmp.Ordering.TheVariants.{Less, Equal, Greater}
use Rattle.std.proofs.lemmas.List.Elements.{Contains-get_or}
use Rattle.std.specs.Cmp.{unsigned_tied, IsEquivalence, eq_by_cmp_equiv}
use Rattle.std.specs.FinMap as finite
use Rattle.std.proofs.lemmas.Map.Lookups.{CmpEqualImpliesEq, exact_pairs, exact_unsigned, btree_set_from_contains}
use Rattle.std.proofs.lemmas.Map.Views.{tells_apart, list_any-from_Contains, Contains-from_any}
use Rattle.std.proofs.lemmas.List.Kept.{IsStrictlySortedBy-dedup, Contains-dedup, Contains-from_dedup}
use Rattle.std.proofs.lemmas.List.Sorted.{list_any-IsPermutation}
use Rattle.std.proofs.lemmas.Bool.{false≢true, ltb-true, lt-ltb}
use Rattle.std.proofs.lemmas.Bool.Decides.{nat_tests}
use Rattle.grid_base.specs.declared.TheConstants.{ID_MAX}
use Rattle.mesh_base.specs.declared.ids.Corners.{Corners}
use Rattle.mesh_base.specs.Mesh.{Mesh, IsSound, HasCorners}
use Rattle.mesh_base.specs.Sides.{follows, runs, IsEdge}
use Rattle.mesh_base.specs.Changes.{corners_of, corner_list}
use Rattle.mesh_base.specs.Pairs.{edges}
use Rattle.mesh_base.specs.SideList.{edge_cmp, side_rank, has_side, HasSmallEnds, are_neighbours, neighbours_in}
use Rattle.mesh_base.proofs.Tests.{tied_then, and_first, and_second, and_both, or_first, or_second, or_either, both_ways}
use Rattle.mesh_base.proofs.InOrder.{edges_sorted, edge_total}
use Rattle.mesh_base.proofs.Listed.{running_face, at_live, edge_live}
use Rattle.mesh_base.proofs.ListedPairs.{all_weaker, edge_listed}
use Rattle.mesh_base.proofs.Counts.{runs-without_face}

-- ---- sides with the same ends
pub tied_edges : (u v a b : ℕ) → is_eq (edge_cmp (u, v) (a, b)) ≡ (u == a && v == b)
tied_edges u v a b = tied_then (nat_cmp u a) (nat_cmp v b) ∙ ap (λ t. t && is_eq (nat_cmp v b)) (unsigned_tied u a) ∙ ap (λ t. (u == a) && t) (unsigned_tied v b)

pub edge_equiv : IsEquivalence (eq_by_cmp edge_cmp)
edge_equiv = eq_by_cmp_equiv edge_total

regrouped : (x y x' y' x'' y'' : Bool) → (((x || y) || (x' || y')) || (x'' || y'')) ≡ ((x || x' || x'') || (y || y' || y''))
regrouped true y x' y' x'' y'' = refl
regrouped false true true y' x'' y'' = refl
regrouped false true false y' true y'' = refl
regrouped false true false y' false y'' = refl
regrouped false false true y' x'' y'' = refl
regrouped false false false true true y'' = refl
regrouped false false false true false y'' = refl
regrouped false false false false x'' y'' = refl

spread : (o low p q r : Bool) → (((o || (low && p)) || (low && q)) || (low && r)) ≡ (o || (low && ((p || q) || r)))
spread true low p q r = refl
spread false true p q r = refl
spread false false p q r = refl

-- the three sides of a face were put at the end
pub seen_face : (o low p q r n n' n'' : Bool) → n ≡ (o || (low && p)) → n' ≡ (n || (low && q)) → n'' ≡ (n' || (low && r)) → n'' ≡ (o || (low && ((p || q) || r)))
seen_face o low p q r n n' n'' e e' e'' = e'' ∙ ap (λ t. t || (low && r)) (e' ∙ ap (λ t. t || (low && q)) e) ∙ spread o low p q r

pub sides_regrouped : (c d e a b : ℕ) → (((c == a && d == b) || (c == b && d == a)) || ((d == a && e == b) || (d == b && e == a)) || ((e == a && c == b) || (e == b && c == a))) ≡ are_neighbours (record { first = c; second = d; third = e }) a b
sides_regrouped c d e a b = regrouped (c == a && d == b) (c == b && d == a) (d == a && e == b) (d == b && e == a) (e == a && c == b) (e == b && c == a)

-- ---- one face more
pub neighbours_some : (o : Option Corners) (c : List ℕ) (a b : ℕ) → option_map corner_list o ≡ Some c → neighbours_in o a b ≡ are_neighbours (corners_of c) a b
neighbours_some None c a b h = cc
neighbours_some (Some d) c a b h = let same : corner_list d ≡ c = cc in ap (λ l. are_neighbours (corners_of l) a b) same

pub neighbours_none : (o : Option Corners) (a b : ℕ) → option_map corner_list o ≡ None → neighbours_in o a b ≡ false
neighbours_none None a b h = refl
neighbours_none (Some d) a b h = cc

pub seen_more : (low rest here old new : Bool) → old ≡ (low && rest) → new ≡ (old || (low && here)) → new ≡ (low && (rest || here))
seen_more low rest here old new e e' = e' ∙ ap (λ t. t || (low && here)) e ∙ joined low rest here
  where
    joined : (low rest here : Bool) → ((low && rest) || (low && here)) ≡ (low && (rest || here))
    joined true rest here = refl
    joined false rest here = refl

pub seen_nothing : (sides : List (ℕ × ℕ)) (a b : ℕ) → sides ≡ [] → has_side sides a b ≡ (nat_lt a b && false)
seen_nothing sides a b h = ap (λ xs. has_side xs a b) h ∙ no_pair (nat_lt a b)
  where
    no_pair : (low : Bool) → false ≡ (low && false)
    no_pair true = refl
    no_pair false = refl

pub seen_no_more : (o low here : Bool) → here ≡ false → o ≡ (o || (low && here))
seen_no_more o low here e = same o low ∙ ap (λ h. o || (low && h)) (sym e)
  where
    same : (o low : Bool) → o ≡ (o || (low && false))
    same true low = refl
    same false true = refl
    same false false = refl

-- ---- edges as what is seen
any_found : {X : Type 0} (p : X → Bool) (xs : List X) → list_any p xs ≡ true → (x : X) × (p x ≡ true)
any_found p [] h = absurd (false≢true h)
any_found p (x ∷ xs) h = ⊎_elim (λ e. (x, e)) (λ e. any_found p xs e) (or_either (p x) (list_any p xs) h)

any_each : {X : Type 0} (p : X → Bool) (xs : List X) → AllByRecursion (λ x. p x ≡ true → list_any p xs ≡ true) xs
any_each p [] = tt
any_each p (x ∷ xs) = (or_first (p x) (list_any p xs), all_weaker (λ y. p y ≡ true → list_any p xs ≡ true) (λ y. p y ≡ true → (p x || list_any p xs) ≡ true) xs (λ y h e. or_second (p x) (list_any p xs) (h e)) (any_each p xs))

pub one_runs : (m : Mesh) (f : ℕ) (c : Corners) (u v : ℕ) → HasCorners m f c → follows c u v ≡ true → 0 < runs m u v
one_runs m f c u v there e = let count = runs-without_face m f c u v there in let one : cond {A = ℕ} (follows c u v) 1 0 ≡ 1 = ap (λ t. cond {A = ℕ} t 1 0) e in omega (arith, count, one)

seen_edge : (m : Mesh) (f a b : ℕ) → neighbours_in (finite.get m.faces f) a b ≡ true → IsEdge m a b
seen_edge m f a b h = by_face (finite.get m.faces f) refl h
  where
    by_face : (o : Option Corners) → finite.get m.faces f ≡ o → neighbours_in o a b ≡ true → IsEdge m a b
    by_face None is e = absurd (false≢true e)
    by_face (Some c) is e = ⊎_elim (λ one. let some = one_runs m f c a b is one in omega (arith, some)) (λ one. let some = one_runs m f c b a is one in omega (arith, some)) (or_either (follows c a b) (follows c b a) e)

abbrev seen : Mesh → ℕ → ℕ → ℕ → Bool
seen m a b f = neighbours_in (finite.get m.faces f) a b

pub edge_seen : (m : Mesh) (a b : ℕ) → IsEdge m a b → list_any (seen m a b) (finite.keys m.faces) ≡ true
edge_seen m a b edge = ⊎_elim
    (λ some. let face = running_face m a b some in found (face.0).0 (face.0).1 face.2 (or_first (follows (face.0).1 a b) (follows (face.0).1 b a) face.1))
    (λ some. let face = running_face m b a some in found (face.0).0 (face.0).1 face.2 (or_second (follows (face.0).1 a b) (follows (face.0).1 b a) face.1))
    (either (runs m a b) (runs m b a) edge)
  where
    either : (x y : ℕ) → 0 < x + y → (0 < x) ⊎ (0 < y)
    either x y h = grind arith

    found : (f : ℕ) (c : Corners) → HasCorners m f c → are_neighbours c a b ≡ true → list_any (seen m a b) (finite.keys m.faces) ≡ true
    found f c there e = at_live (λ k. seen m a b k ≡ true → list_any (seen m a b) (finite.keys m.faces) ≡ true) m.faces f (any_each (seen m a b) (finite.keys m.faces)) (ap is_some there) (ap (λ o. neighbours_in o a b) there ∙ e)

-- ---- order
edge_exact : CmpEqualImpliesEq edge_cmp
edge_exact = exact_pairs nat_cmp nat_cmp exact_unsigned exact_unsigned

-- whether two sides have the same ends
abbrev pub same_ends : ℕ × ℕ → ℕ × ℕ → Bool
same_ends e d = (e.0 == d.0) && (e.1 == d.1)

same_ties : (e d : ℕ × ℕ) → same_ends e d ≡ eq_by_cmp edge_cmp e d
same_ties e d = sym (tied_edges e.0 e.1 d.0 d.1)

ends_equiv : IsEquivalence same_ends
ends_equiv = record {
  refl = λ e. same_ties e e ∙ edge_equiv.refl e;
  symm = λ e d. same_ties e d ∙ edge_equiv.symm e d ∙ sym (same_ties d e);
  congr = λ e d o h. same_ties e o ∙ edge_equiv.congr e d o (sym (same_ties e d) ∙ h) ∙ sym (same_ties d o);
}

ends_exact : (e d : ℕ × ℕ) → same_ends e d ≡ true → e ≡ d
ends_exact e d h = tells_apart edge_exact e d (sym (same_ties e d) ∙ h)

-- a list has a side that a look-up finds, and a look-up finds what it has
pub has_contained : (sides : List (ℕ × ℕ)) (a b : ℕ) → Contains sides (a, b) → has_side sides a b ≡ true
has_contained sides a b h = list_any-from_Contains edge_equiv (a, b) sides h

pub contained : (sides : List (ℕ × ℕ)) (a b : ℕ) → has_side sides a b ≡ true → Contains sides (a, b)
contained sides a b h = Contains-from_any (tells_apart edge_exact) (a, b) sides h

has_once : (sides : List (ℕ × ℕ)) (a b : ℕ) → has_side (dedup same_ends sides) a b ≡ has_side sides a b
has_once sides a b = both_ways _ _
    (λ h. has_contained sides a b (Contains-from_dedup same_ends sides (a, b) (contained (dedup same_ends sides) a b h)))
    (λ h. has_contained (dedup same_ends sides) a b (Contains-dedup ends_equiv ends_exact sides (a, b) (contained sides a b h)))

-- ---- order by rank
less_is : (x y : ℕ) → nat_cmp x y ≡ Less → x < y
less_is x y h = grind (arith, nat_tests)

equal_is : (x y : ℕ) → nat_cmp x y ≡ Equal → x ≡ y
equal_is x y h = grind (arith, nat_tests)

not_before : (u v a b : ℕ) → b < 2 ^ 32 → u * 2 ^ 32 + v ≤ a * 2 ^ 32 + b → is_lt (edge_cmp (a, b) (u, v)) ≡ false
not_before u v a b small h = by_orders (nat_cmp a u) (nat_cmp b v) refl refl
  where
    by_orders : (o p : Ordering) → nat_cmp a u ≡ o → nat_cmp b v ≡ p → is_lt (ordering_then o p) ≡ false
    by_orders Less p is is' = let less = less_is a u is in absurd (omega (arith, less, small, h))
    by_orders Equal Less is is' = let same = equal_is a u is in let less = less_is b v is' in absurd (omega (arith, same, less, h))
    by_orders Equal Equal is is' = refl
    by_orders Equal Greater is is' = refl
    by_orders Greater p is is' = refl

rank_sorts : (sides : List (ℕ × ℕ)) → IsNonDecreasingBy side_rank sides → HasSmallEnds sides → IsSorted edge_cmp sides
rank_sorts sides up small k d low inside =
    let e = slice_index_or sides k d in
    let next = slice_index_or sides (k + 1) d in
    not_before e.0 e.1 next.0 next.1 (small next.0 next.1 (has_contained sides next.0 next.1 (Contains-get_or sides (k + 1) d inside))) (up k (k + 1) d (omega arith) inside)

-- what a sort by rank and a `dedup` leave is in order, with none twice
pub sides_rise : (sides sorted left : List (ℕ × ℕ)) → HasSmallEnds sides → IsPermutation sides sorted → IsNonDecreasingBy side_rank sorted → left ≡ dedup same_ends sorted → IsStrictlySortedBy edge_cmp left
sides_rise sides sorted left small moved up is =
    let in_order = rank_sorts sorted up (λ u v h. small u v (list_any-IsPermutation (eq_by_cmp edge_cmp (u, v)) sides sorted moved ∙ h)) in
    subst (IsStrictlySortedBy edge_cmp) (sym is) (IsStrictlySortedBy-dedup edge_total same_ties sorted in_order)

-- a sort and a `dedup` leave the same sides
pub sides_stay : (sides sorted left : List (ℕ × ℕ)) → IsPermutation sides sorted → left ≡ dedup same_ends sorted → (a b : ℕ) → has_side left a b ≡ has_side sides a b
sides_stay sides sorted left moved is a b =
    ap (λ xs. has_side xs a b) is ∙ has_once sorted a b ∙ sym (list_any-IsPermutation (eq_by_cmp edge_cmp (a, b)) sides sorted moved)

-- the ends of the sides of the faces are ids, which are below 2^32
pub sides_are_small : (m : Mesh) (faces : List ℕ) (sides : List (ℕ × ℕ)) → IsSound m
    → ((a b : ℕ) → has_side sides a b ≡ (nat_lt a b && list_any (λ f. neighbours_in (finite.get m.faces f) a b) faces)) → HasSmallEnds sides
sides_are_small m faces sides sound is u v h =
    let both : (nat_lt u v && list_any (seen m u v) faces) ≡ true = sym (is u v) ∙ h in
    let face = any_found (seen m u v) faces (and_second (nat_lt u v) _ both) in
    let live = (edge_live m u v sound (seen_edge m face.0 u v face.1)).1 in
    let made = (sound.is_mesh.vertex_ids v live).1 in
    let within : m.next_vertex ≤ ID_MAX + 1 = sound.limits.vertex_ids.1 in
    omega (arith, made, within)

-- a list in order that has the sides of the faces has the edges
pub sides_are_edges : (m : Mesh) (sides : List (ℕ × ℕ)) → IsSound m → IsStrictlySortedBy edge_cmp sides
    → ((a b : ℕ) → has_side sides a b ≡ (nat_lt a b && list_any (λ f. neighbours_in (finite.get m.faces f) a b) (finite.keys m.faces))) → sides ≡ edges m
sides_are_edges m sides sound in_order is = btree_set_from_contains edge_total (record { keys = sides }) (record { keys = edges m }) in_order (edges_sorted m) (λ q. same q.0 q.1) edge_exact
  where
    same : (a b : ℕ) → has_side sides a b ≡ has_side (edges m) a b
    same a b = both_ways (has_side sides a b) (has_side (edges m) a b)
        (λ h.
        let both : (nat_lt a b && list_any (seen m a b) (finite.keys m.faces)) ≡ true = sym (is a b) ∙ h in
        let face = any_found (seen m a b) (finite.keys m.faces) (and_second (nat_lt a b) _ both) in
        has_contained (edges m) a b ((edge_listed m sound a b).1 (ltb-true a b (and_first (nat_lt a b) _ both), seen_edge m face.0 a b face.1)))
        (λ h.
        let edge = (edge_listed m sound a b).0 (contained (edges m) a b h) in
        is a b ∙ and_both (nat_lt a b) _ (lt-ltb a b edge.0) (edge_seen m a b edge.1))
