-- Each two numbers up to n, in order.
use Rattle.std.proofs.Common.{◌≡◌, ℕ, zero, suc, ◌+◌, ◌<◌, ◌==◌, ◌&&◌, ◌||◌, Bool, true, false, cond, List, [], ◌∷◌, ◌++◌, map, nat_lt, nat_le, refl, sym, ap, ◌∙◌, arith}
use Rattle.std.specs.List.{filter, flat_map, range_with_len, list_any, AllByRecursion}
use Rattle.std.specs.List.Sorted.{IsStrictlySortedBy}
use Rattle.std.specs.Ordering.{nat_cmp, ordering_then, eq_by_cmp}
use Rattle.std.specs.declared.cmp.Ordering.{Ordering}
use Rattle.std.specs.declared.cmp.Ordering.TheVariants.{Less, Equal}
use Rattle.std.proofs.lemmas.Bool.{eqb-true}
use Rattle.std.proofs.lemmas.Bool.Decides.{nat_tests}
use Rattle.std.proofs.lemmas.List.Kept.{IsStrictlySortedBy-filter}
use Rattle.mesh_base.specs.Pairs.{id_pairs}
use Rattle.mesh_base.specs.SideList.{edge_cmp, has_side}
use Rattle.mesh_base.proofs.InOrder.{sorted_mapped}
use Rattle.mesh_base.proofs.ListedPairs.{all_joined, all_flat_mapped, all_mapped, all_weaker, all_always}
use Rattle.mesh_shape.specs.Shape.{is_vertex, numbers_to}
use Rattle.mesh_shape.proofs.Differing.{tied_edges, is_side, same_side, has_joined}

-- ---- in order
sorted_joined : {X : Type 0} (R : X → X → Ordering) (xs ys : List X) → IsStrictlySortedBy R xs → IsStrictlySortedBy R ys → AllByRecursion (λ x. AllByRecursion (λ y. R x y ≡ Less) ys) xs → IsStrictlySortedBy R (xs ++ ys)
unfolding IsStrictlySortedBy
sorted_joined R [] ys h h' across = h'
sorted_joined R (x ∷ xs) ys h h' across = (all_joined (λ y. R x y ≡ Less) xs ys h.0 across.0, sorted_joined R xs ys h.1 h' across.1)

sorted_rows : {X Y : Type 0} (S : X → X → Ordering) (R : Y → Y → Ordering) (row : X → List Y) (head : Y → X) (xs : List X)
    → ((x : X) → IsStrictlySortedBy R (row x)) → ((x : X) → AllByRecursion (λ y. head y ≡ x) (row x)) → ((y z : Y) → S (head y) (head z) ≡ Less → R y z ≡ Less)
    → IsStrictlySortedBy S xs → IsStrictlySortedBy R (flat_map row xs)
unfolding IsStrictlySortedBy
sorted_rows S R row head [] each headed less h = tt
sorted_rows {X} {Y} S R row head (x ∷ xs) each headed less h =
    sorted_joined R (row x) (flat_map row xs) (each x) (sorted_rows S R row head xs each headed less h.1)
    (all_weaker (λ y. head y ≡ x) (λ y. AllByRecursion (λ z. R y z ≡ Less) (flat_map row xs)) (row x) before_rest (headed x))
  where
    before_row : (y : Y) → head y ≡ x → (w : X) → S x w ≡ Less → AllByRecursion (λ z. R y z ≡ Less) (row w)
    before_row y of_x w above = all_weaker (λ z. head z ≡ w) (λ z. R y z ≡ Less) (row w) (λ z of_w. less y z (ap (λ k. S k (head z)) of_x ∙ ap (S x) of_w ∙ above)) (headed w)

    before_rest : (y : Y) → head y ≡ x → AllByRecursion (λ z. R y z ≡ Less) (flat_map row xs)
    before_rest y of_x = all_flat_mapped (λ z. R y z ≡ Less) row xs (all_weaker (λ w. S x w ≡ Less) (λ w. AllByRecursion (λ z. R y z ≡ Less) (row w)) xs (before_row y of_x) h.0)

tied : (u : ℕ) → nat_cmp u u ≡ Equal
tied u = grind (arith, nat_tests)

less_second : (u v w : ℕ) → nat_cmp v w ≡ Less → edge_cmp (u, v) (u, w) ≡ Less
less_second u v w h = ap (λ o. ordering_then o (nat_cmp v w)) (tied u) ∙ h

id_pairs_sorted : (ids : List ℕ) → IsStrictlySortedBy nat_cmp ids → IsStrictlySortedBy edge_cmp (id_pairs ids)
id_pairs_sorted ids h = sorted_rows nat_cmp edge_cmp row (λ e. e.0) ids each headed (λ d e less. ap (λ o. ordering_then o (nat_cmp d.1 e.1)) less) h
  where
    row : ℕ → List (ℕ × ℕ)
    row u = map (λ v. (u, v)) (filter (λ v. nat_lt u v) ids)

    each : (u : ℕ) → IsStrictlySortedBy edge_cmp (map (λ v. (u, v)) (filter (λ v. nat_lt u v) ids))
    each u = sorted_mapped nat_cmp edge_cmp (λ v. (u, v)) (filter (λ v. nat_lt u v) ids) (less_second u) (IsStrictlySortedBy-filter nat_cmp (λ v. nat_lt u v) ids h)

    headed : (u : ℕ) → AllByRecursion (λ (e : ℕ × ℕ). e.0 ≡ u) (map (λ v. (u, v)) (filter (λ v. nat_lt u v) ids))
    headed u = all_mapped (λ (e : ℕ × ℕ). e.0 ≡ u) (λ v. (u, v)) (filter (λ v. nat_lt u v) ids) (all_always (λ v. u ≡ u) (filter (λ v. nat_lt u v) ids) (λ v. refl))

is_less : (a b : ℕ) → a < b → nat_cmp a b ≡ Less
is_less a b h = grind (arith, nat_tests)

above_all : (a k n : ℕ) → a < k → AllByRecursion (λ y. nat_cmp a y ≡ Less) (range_with_len k n)
above_all a k zero h = tt
above_all a k (suc n) h = (is_less a k h, above_all a (k + 1) n (omega arith))

numbers_sorted : (k n : ℕ) → IsStrictlySortedBy nat_cmp (range_with_len k n)
unfolding IsStrictlySortedBy
numbers_sorted k zero = tt
numbers_sorted k (suc n) = (above_all k (k + 1) n (omega arith), numbers_sorted (k + 1) n)

pub numbered_pairs_sorted : (n : ℕ) → IsStrictlySortedBy edge_cmp (id_pairs (numbers_to n))
numbered_pairs_sorted n = id_pairs_sorted (numbers_to n) (numbers_sorted 1 n)

-- ---- which they are
abbrev among : ℕ → List ℕ → Bool
among v ids = list_any (λ w. v == w) ids

among_numbers : (v k n : ℕ) → among v (range_with_len k n) ≡ (nat_le k v && nat_lt v (k + n))
among_numbers v k zero = none v k
  where
    none : (v k : ℕ) → false ≡ (nat_le k v && nat_lt v (k + 0))
    none v k = grind (arith, nat_tests)
among_numbers v k (suc n) = ap (λ b. (v == k) || b) (among_numbers v (k + 1) n) ∙ one v k n
  where
    one : (v k n : ℕ) → ((v == k) || (nat_le (k + 1) v && nat_lt v ((k + 1) + n))) ≡ (nat_le k v && nat_lt v (k + suc n))
    one v k n = grind (arith, nat_tests)

among_vertices : (v n : ℕ) → among v (numbers_to n) ≡ is_vertex n v
among_vertices v n = among_numbers v 1 n ∙ within v n
  where
    within : (v n : ℕ) → (nat_le 1 v && nat_lt v (1 + n)) ≡ (nat_le 1 v && nat_le v n)
    within v n = grind (arith, nat_tests)

among_chosen : (p : ℕ → Bool) (v : ℕ) (ids : List ℕ) → among v (filter p ids) ≡ (p v && among v ids)
among_chosen p v [] = none (p v)
  where
    none : (b : Bool) → false ≡ (b && false)
    none true = refl
    none false = refl
among_chosen p v (w ∷ ids) = by_test (p w) refl (v == w) refl (among_chosen p v ids)
  where
    by_test : (b : Bool) → p w ≡ b → (e : Bool) → (v == w) ≡ e → among v (filter p ids) ≡ (p v && among v ids) → among v (cond b (w ∷ filter p ids) (filter p ids)) ≡ (p v && ((v == w) || among v ids))
    by_test true h true e rest =
        let here : p v ≡ true = ap p (eqb-true v w e) ∙ h in
        ap (λ t. t || among v (filter p ids)) e ∙ sym (ap (λ t. p v && (t || among v ids)) e ∙ ap (λ t. t && true) here)
    by_test true h false e rest = ap (λ t. t || among v (filter p ids)) e ∙ rest ∙ sym (ap (λ t. p v && (t || among v ids)) e)
    by_test false h true e rest =
        let here : p v ≡ false = ap p (eqb-true v w e) ∙ h in
        rest ∙ ap (λ t. t && among v ids) here ∙ sym (ap (λ t. t && ((v == w) || among v ids)) here)
    by_test false h false e rest = rest ∙ sym (ap (λ t. p v && (t || among v ids)) e)

has_row : (a : ℕ) (ws : List ℕ) (u v : ℕ) → has_side (map (λ w. (a, w)) ws) u v ≡ ((u == a) && among v ws)
has_row a [] u v = none (u == a)
  where
    none : (b : Bool) → false ≡ (b && false)
    none true = refl
    none false = refl
has_row a (w ∷ ws) u v = ap (λ b. b || has_side (map (λ x. (a, x)) ws) u v) (tied_edges u v a w) ∙ ap (λ b. ((u == a) && (v == w)) || b) (has_row a ws u v) ∙ spread (u == a) (v == w) (among v ws)
  where
    spread : (p q r : Bool) → ((p && q) || (p && r)) ≡ (p && (q || r))
    spread true q r = refl
    spread false q r = refl

has_rows : (ids us : List ℕ) (u v : ℕ) → has_side (flat_map (λ a. map (λ w. (a, w)) (filter (λ w. nat_lt a w) ids)) us) u v ≡ (among u us && (nat_lt u v && among v ids))
has_rows ids [] u v = refl
has_rows ids (a ∷ us) u v =
    has_joined (map (λ w. (a, w)) (filter (λ w. nat_lt a w) ids)) (flat_map (λ b. map (λ w. (b, w)) (filter (λ w. nat_lt b w) ids)) us) u v
    ∙ ap (λ b. b || has_side (flat_map (λ c. map (λ w. (c, w)) (filter (λ w. nat_lt c w) ids)) us) u v) (has_row a (filter (λ w. nat_lt a w) ids) u v ∙ ap (λ b. (u == a) && b) (among_chosen (λ w. nat_lt a w) v ids))
    ∙ ap (λ b. ((u == a) && (nat_lt a v && among v ids)) || b) (has_rows ids us u v)
    ∙ by_test (u == a) refl
  where
    same : (x y : Bool) → (x || (y && x)) ≡ x
    same true y = refl
    same false true = refl
    same false false = refl

    by_test : (b : Bool) → (u == a) ≡ b → ((b && (nat_lt a v && among v ids)) || (among u us && (nat_lt u v && among v ids))) ≡ ((b || among u us) && (nat_lt u v && among v ids))
    by_test true e = ap (λ k. (nat_lt k v && among v ids) || (among u us && (nat_lt u v && among v ids))) (sym (eqb-true u a e)) ∙ same (nat_lt u v && among v ids) (among u us)
    by_test false e = refl

pub has_numbered : (n u v : ℕ) → has_side (id_pairs (numbers_to n)) u v ≡ (is_vertex n u && (nat_lt u v && is_vertex n v))
has_numbered n u v =
    has_rows (numbers_to n) (numbers_to n) u v
    ∙ ap (λ b. b && (nat_lt u v && among v (numbers_to n))) (among_vertices u n)
    ∙ ap (λ b. is_vertex n u && (nat_lt u v && b)) (among_vertices v n)

-- ---- those of a list that are chosen
pub has_chosen : (p : ℕ × ℕ → Bool) (xs : List (ℕ × ℕ)) (u v : ℕ) → has_side (filter p xs) u v ≡ (p (u, v) && has_side xs u v)
has_chosen p [] u v = none (p (u, v))
  where
    none : (b : Bool) → false ≡ (b && false)
    none true = refl
    none false = refl
has_chosen p (x ∷ xs) u v = by_test (p x) refl (eq_by_cmp edge_cmp (u, v) x) refl (has_chosen p xs u v)
  where
    is : eq_by_cmp edge_cmp (u, v) x ≡ true → p (u, v) ≡ p x
    is e = ap p (sym (same_side x u v (is_side x u v ∙ e)))

    by_test : (b : Bool) → p x ≡ b → (e : Bool) → eq_by_cmp edge_cmp (u, v) x ≡ e → has_side (filter p xs) u v ≡ (p (u, v) && has_side xs u v) → has_side (cond b (x ∷ filter p xs) (filter p xs)) u v ≡ (p (u, v) && (eq_by_cmp edge_cmp (u, v) x || has_side xs u v))
    by_test true h true e rest =
        let here : p (u, v) ≡ true = is e ∙ h in
        ap (λ t. t || has_side (filter p xs) u v) e ∙ sym (ap (λ t. p (u, v) && (t || has_side xs u v)) e ∙ ap (λ t. t && true) here)
    by_test true h false e rest = ap (λ t. t || has_side (filter p xs) u v) e ∙ rest ∙ sym (ap (λ t. p (u, v) && (t || has_side xs u v)) e)
    by_test false h true e rest =
        let here : p (u, v) ≡ false = is e ∙ h in
        rest ∙ ap (λ t. t && has_side xs u v) here ∙ sym (ap (λ t. t && (eq_by_cmp edge_cmp (u, v) x || has_side xs u v)) here)
    by_test false h false e rest = rest ∙ sym (ap (λ t. p (u, v) && (t || has_side xs u v)) e)
