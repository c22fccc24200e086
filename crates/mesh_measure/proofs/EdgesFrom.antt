-- The edges of a mesh are those that lead from each vertex to the vertices above it.
use Rattle.std.proofs.Common.{◌≡◌, ◌⊎◌, ℕ, nat_eq, ◌+◌, ◌<◌, Bool, true, false, cond, ◌||◌, ◌&&◌, ◌==◌, nat_lt, List, [], ◌∷◌, ◌++◌, map, length, ⊎_elim, refl, sym, ap, subst, ◌∙◌, arith}
use Rattle.std.proofs.lemmas.Bool.{false≢true, eqb-true, ltb-true, lt-ltb}
use Rattle.std.proofs.lemmas.Bool.Decides.{nat_tests}
use Rattle.std.proofs.lemmas.List.{length-append}
use Rattle.std.proofs.lemmas.List.Elements.{filter-append}
use Rattle.std.proofs.lemmas.List.Folds.{list_any-append}
use Rattle.std.proofs.lemmas.List.Kept.{IsStrictlySortedBy-dedup, IsStrictlySortedBy-filter, Contains-dedup_nat, Contains-from_dedup}
use Rattle.std.proofs.lemmas.List.Sorted.{list_any-IsPermutation}
use Rattle.std.proofs.lemmas.Map.Lookups.{exact_unsigned, btree_set_from_contains}
use Rattle.std.specs.Cmp.{nat_cmp_total, unsigned_tied, unsigned_ties}
use Rattle.std.specs.List.{filter, flat_map, list_any, dedup}
use Rattle.std.specs.List.Sorted.{IsStrictlySortedBy, IsSorted, IsPermutation}
use Rattle.std.specs.Ordering.{nat_cmp, eq_by_cmp}
use Rattle.std.specs.FinMap as finite
use Rattle.std.specs.FinMap.{entries_sorted}
use Rattle.mesh_base.specs.declared.ids.Corners.{Corners}
use Rattle.mesh_base.specs.Mesh.{Mesh, IsSound, HasCorners}
use Rattle.mesh_base.specs.Pairs.{edges, is_edge}
use Rattle.mesh_base.specs.Sides.{above, follows, has_corner, runs}
use Rattle.mesh_base.proofs.EdgesInOrder.{one_runs}
use Rattle.mesh_base.proofs.InOrder.{keys_sorted}
use Rattle.mesh_base.proofs.Listed.{running_face}
use Rattle.mesh_base.proofs.Tests.{and_first, and_second, and_both, or_either, both_ways}
use Rattle.edit_base.specs.Classes.{is_one_of}
use Rattle.edit_base.specs.Edges.{corners_at}
use Rattle.edit_base.proofs.Chains.{Has, passed, passes, has_contained, contains_had}
use Rattle.mesh_measure.specs.Above.{edges_from, AddsAbove}
use Rattle.mesh_measure.specs.Walk.{around}
use Rattle.mesh_measure.proofs.Around.{around_from, around_has, around_live, corners_there}

-- ---- numbers above v are put
or_nothing : (a b : Bool) → a ≡ (a || (b && false))
or_nothing true b = refl
or_nothing false true = refl
or_nothing false false = refl

pub adds_none : (v : ℕ) (xs : List ℕ) → AddsAbove v [] xs xs
adds_none v xs = λ q. or_nothing (is_one_of xs q) (nat_lt v q)

joined : (o low a b : Bool) → ((o || (low && a)) || (low && b)) ≡ (o || (low && (a || b)))
joined true low a b = refl
joined false true a b = refl
joined false false a b = refl

pub adds_then : (v : ℕ) (us ws xs ys zs : List ℕ) → AddsAbove v us xs ys → AddsAbove v ws ys zs → AddsAbove v (us ++ ws) xs zs
adds_then v us ws xs ys zs one two = λ q.
    two q
    ∙ ap (λ b. b || (nat_lt v q && is_one_of ws q)) (one q)
    ∙ joined (is_one_of xs q) (nat_lt v q) (is_one_of us q) (is_one_of ws q)
    ∙ ap (λ b. is_one_of xs q || (nat_lt v q && b)) (sym (list_any-append (λ y. y == q) us ws))

one_of_one : (w q : ℕ) → is_one_of (w ∷ []) q ≡ (w == q)
one_of_one w q = nothing (w == q)
  where
    nothing : (b : Bool) → (b || false) ≡ b
    nothing true = refl
    nothing false = refl

pub adds_one : (v w : ℕ) (xs ys : List ℕ) → v < w → ys ≡ xs ++ w ∷ [] → AddsAbove v (w ∷ []) xs ys
adds_one v w xs ys low is = λ q.
    ap (λ l. is_one_of l q) is
    ∙ list_any-append (λ y. y == q) xs (w ∷ [])
    ∙ ap (λ b. is_one_of xs q || b) (if_so (is_one_of (w ∷ []) q) (nat_lt v q) (λ h. lt-ltb v q (subst (λ x. v < x) (eqb-true w q (sym (one_of_one w q) ∙ h)) low)))
  where
    if_so : (a b : Bool) → (a ≡ true → b ≡ true) → a ≡ (b && a)
    if_so true b h = ap (λ x. x && true) (sym (h refl))
    if_so false true h = refl
    if_so false false h = refl

pub adds_no : (v w : ℕ) (xs : List ℕ) → (v < w → ⊥) → AddsAbove v (w ∷ []) xs xs
adds_no v w xs high = λ q. none (is_one_of xs q) (nat_lt v q) (is_one_of (w ∷ []) q) (λ low h. high (subst (λ x. v < x) (sym (eqb-true w q (sym (one_of_one w q) ∙ h))) (ltb-true v q low)))
  where
    none : (o low a : Bool) → (low ≡ true → a ≡ true → ⊥) → o ≡ (o || (low && a))
    none true low a h = refl
    none false true true h = absurd (h refl refl)
    none false true false h = refl
    none false false a h = refl

-- ---- a sort and a `dedup`
has_once : (q : ℕ) (xs : List ℕ) → is_one_of (dedup nat_eq xs) q ≡ is_one_of xs q
has_once q xs = both_ways (is_one_of (dedup nat_eq xs) q) (is_one_of xs q)
    (λ h. has_contained xs q (Contains-from_dedup nat_eq xs q (contains_had (dedup nat_eq xs) q h)))
    (λ h. has_contained (dedup nat_eq xs) q (Contains-dedup_nat xs q (contains_had xs q h)))

pub same_risen : (xs ys zs : List ℕ) → IsPermutation xs ys → zs ≡ dedup nat_eq ys → (q : ℕ) → is_one_of zs q ≡ is_one_of xs q
same_risen xs ys zs moved is q = ap (λ l. is_one_of l q) is ∙ has_once q ys ∙ sym (list_any-IsPermutation (λ y. y == q) xs ys moved)

pub risen : (ys zs : List ℕ) → IsSorted nat_cmp ys → zs ≡ dedup nat_eq ys → IsStrictlySortedBy nat_cmp zs
risen ys zs up is = subst (IsStrictlySortedBy nat_cmp) (sym is) (IsStrictlySortedBy-dedup nat_cmp_total unsigned_ties ys up)

-- ---- two corners of a face are neighbours
neighbours : (a b c x y z : Bool) → ((a || b) || c) ≡ true → ((x || y) || z) ≡ true → (a && x) ≡ false → (b && y) ≡ false → (c && z) ≡ false
    → ((((a && y) || (b && z)) || (c && x)) || (((x && b) || (y && c)) || (z && a))) ≡ true
neighbours true b c true y z p q d e f = absurd (false≢true (sym d))
neighbours true b c false true z p q d e f = refl
neighbours true true c false false true p q d e f = refl
neighbours true false true false false true p q d e f = refl
neighbours true false false false false true p q d e f = refl
neighbours true b c false false false p q d e f = absurd (false≢true q)
neighbours false true c x true z p q d e f = absurd (false≢true (sym e))
neighbours false true c x false true p q d e f = refl
neighbours false true true true false false p q d e f = refl
neighbours false true false true false false p q d e f = refl
neighbours false true c false false false p q d e f = absurd (false≢true q)
neighbours false false true x y true p q d e f = absurd (false≢true (sym f))
neighbours false false true true y false p q d e f = refl
neighbours false false true false true false p q d e f = refl
neighbours false false true false false false p q d e f = absurd (false≢true q)
neighbours false false false x y z p q d e f = absurd (false≢true p)

not_both : (x v q : ℕ) → v < q → (x == v && x == q) ≡ false
not_both x v q low = by_tests (x == v) (x == q) refl refl
  where
    by_tests : (a b : Bool) → (x == v) ≡ a → (x == q) ≡ b → (a && b) ≡ false
    by_tests true true is is' = let one = eqb-true x v is in let two = eqb-true x q is' in absurd (omega (arith, one, two, low))
    by_tests true false is is' = refl
    by_tests false b is is' = refl

module _ (m : Mesh) (sound : IsSound m) (v : ℕ) where
  edge_of : (q : ℕ) → v < q → Has (around m v) q → is_edge m v q ≡ true
  edge_of q low has =
      let f = around_from m v q has in
      let c = corners_at m f.0 in
      ⊎_elim
      (λ one. let some = one_runs m f.0 c v q f.1 one in lt-ltb 0 (runs m v q + runs m q v) (omega (arith, some)))
      (λ one. let some = one_runs m f.0 c q v f.1 one in lt-ltb 0 (runs m v q + runs m q v) (omega (arith, some)))
      (or_either (follows c v q) (follows c q v)
      (neighbours (c.first == v) (c.second == v) (c.third == v) (c.first == q) (c.second == q) (c.third == q) f.2 f.3 (not_both c.first v q low) (not_both c.second v q low) (not_both c.third v q low)))

  at_face : (f : ℕ) (c : Corners) (q : ℕ) → HasCorners m f c → has_corner c v ≡ true → has_corner c q ≡ true → Has (around m v) q
  at_face f c q there at_v at_q =
      let is = sym (corners_there m f c there) in
      around_has m f v q (subst (HasCorners m f) is there) (subst (λ d. has_corner d v ≡ true) is at_v) (subst (λ d. has_corner d q ≡ true) is at_q)

  first_of : (c : Corners) (a b : ℕ) → follows c a b ≡ true → has_corner c a ≡ true
  first_of c a b e = any (c.first == a) (c.second == a) (c.third == a) (c.second == b) (c.third == b) (c.first == b) e
    where
      any : (x y z p q r : Bool) → (((x && p) || (y && q)) || (z && r)) ≡ true → ((x || y) || z) ≡ true
      any true y z p q r e = refl
      any false true z p q r e = refl
      any false false true p q r e = refl
      any false false false p q r e = e

  second_of : (c : Corners) (a b : ℕ) → follows c a b ≡ true → has_corner c b ≡ true
  second_of c a b e = any (c.first == a) (c.second == a) (c.third == a) (c.first == b) (c.second == b) (c.third == b) e
    where
      any : (x y z p q r : Bool) → (((x && q) || (y && r)) || (z && p)) ≡ true → ((p || q) || r) ≡ true
      any x y z true q r e = refl
      any x y z false true r e = refl
      any x y z false false true e = refl
      any true true true false false false e = e
      any true true false false false false e = e
      any true false true false false false e = e
      any true false false false false false e = e
      any false true true false false false e = e
      any false true false false false false e = e
      any false false true false false false e = e
      any false false false false false false e = e

  has_edge : (q : ℕ) → is_edge m v q ≡ true → Has (around m v) q
  has_edge q e = ⊎_elim
      (λ some. let face = running_face m v q some in at_face (face.0).0 (face.0).1 q face.2 (first_of (face.0).1 v q face.1) (second_of (face.0).1 v q face.1))
      (λ some. let face = running_face m q v some in at_face (face.0).0 (face.0).1 q face.2 (second_of (face.0).1 q v face.1) (first_of (face.0).1 q v face.1))
      (either (runs m v q) (runs m q v) (ltb-true 0 (runs m v q + runs m q v) e))
    where
      either : (x y : ℕ) → 0 < x + y → (0 < x) ⊎ (0 < y)
      either x y h = grind arith

  keys : List ℕ
  keys = finite.keys m.points

  alike : (near : List ℕ) → ((q : ℕ) → is_one_of near q ≡ (nat_lt v q && is_one_of (around m v) q)) → (q : ℕ) → is_one_of near q ≡ is_one_of (edges_from m v) q
  alike near is q = both_ways (is_one_of near q) (is_one_of (edges_from m v) q)
      (λ h.
      let both : (nat_lt v q && is_one_of (around m v) q) ≡ true = sym (is q) ∙ h in
      let low = and_first (nat_lt v q) _ both in
      let there = and_second (nat_lt v q) _ both in
      passes (λ u. is_edge m v u) (above v (finite.keys m.points)) q (passes (λ u. nat_lt v u) (finite.keys m.points) q (around_live m sound v q there) low) (edge_of q (ltb-true v q low) there))
      (λ h.
      let edge = passed (λ u. is_edge m v u) (above v (finite.keys m.points)) q h in
      let low = (passed (λ u. nat_lt v u) (finite.keys m.points) q edge.0).1 in
      is q ∙ and_both (nat_lt v q) _ low (has_edge q edge.1))

  turned : (xs : List ℕ) (q : ℕ) → list_any (eq_by_cmp nat_cmp q) xs ≡ is_one_of xs q
  turned [] q = refl
  turned (x ∷ xs) q = ap (λ b. b || list_any (eq_by_cmp nat_cmp q) xs) (unsigned_tied q x ∙ around_eq q x) ∙ ap (λ b. (x == q) || b) (turned xs q)
    where
      around_eq : (a b : ℕ) → (a == b) ≡ (b == a)
      around_eq a b = grind (arith, nat_tests)

  -- a list in order that has the corners above v round v has those to which an edge leads
  pub near_is : (near : List ℕ) → IsStrictlySortedBy nat_cmp near → ((q : ℕ) → is_one_of near q ≡ (nat_lt v q && is_one_of (around m v) q)) → near ≡ edges_from m v
  near_is near up is = btree_set_from_contains nat_cmp_total (record { keys = near }) (record { keys = edges_from m v }) up
      (IsStrictlySortedBy-filter nat_cmp (λ u. is_edge m v u) (above v (finite.keys m.points)) (IsStrictlySortedBy-filter nat_cmp (λ u. nat_lt v u) (finite.keys m.points) (keys_sorted (finite.entries m.points) (entries_sorted m.points))))
      (λ q. turned near q ∙ alike near is q ∙ sym (turned (edges_from m v) q)) exact_unsigned

-- ---- all edges
module _ (m : Mesh) (ids : List ℕ) where
  abbrev later : ℕ → List ℕ
  later u = filter (λ v. nat_lt u v) ids

  row : (u : ℕ) (vs : List ℕ) → length (filter (λ (e : ℕ × ℕ). is_edge m e.0 e.1) (map (λ (v : ℕ). (u, v)) vs)) ≡ length (filter (λ v. is_edge m u v) vs)
  row u [] = refl
  row u (v ∷ vs) =
      let rest = row u vs in
      elim (is_edge m u v) as (λ b. length (cond b ((u, v) ∷ filter (λ (e : ℕ × ℕ). is_edge m e.0 e.1) (map (λ (w : ℕ). (u, w)) vs)) (filter (λ (e : ℕ × ℕ). is_edge m e.0 e.1) (map (λ (w : ℕ). (u, w)) vs))) ≡ length (cond b (v ∷ filter (λ w. is_edge m u w) vs) (filter (λ w. is_edge m u w) vs))) [
        | true ↦ omega (arith, rest)
        | false ↦ rest
      ]

  by_vertex : (us : List ℕ) → length (filter (λ (e : ℕ × ℕ). is_edge m e.0 e.1) (flat_map (λ u. map (λ (v : ℕ). (u, v)) (later u)) us)) ≡ length (flat_map (λ u. filter (λ v. is_edge m u v) (later u)) us)
  by_vertex [] = refl
  by_vertex (u ∷ us) =
      let here : List (ℕ × ℕ) = map (λ (v : ℕ). (u, v)) (later u) in
      let others : List (ℕ × ℕ) = flat_map (λ u. map (λ (v : ℕ). (u, v)) (later u)) us in
      let parted = ap length (filter-append (λ (e : ℕ × ℕ). is_edge m e.0 e.1) here others) in
      let long = length-append (filter (λ (e : ℕ × ℕ). is_edge m e.0 e.1) here) (filter (λ (e : ℕ × ℕ). is_edge m e.0 e.1) others) in
      let first = row u (later u) in
      let rest = by_vertex us in
      let short = length-append (filter (λ v. is_edge m u v) (later u)) (flat_map (λ u. filter (λ v. is_edge m u v) (later u)) us) in
      parted ∙ long ∙ ap (λ n. n + length (filter (λ (e : ℕ × ℕ). is_edge m e.0 e.1) others)) first ∙ ap (λ n. length (filter (λ v. is_edge m u v) (later u)) + n) rest ∙ sym short

pub edges_by_vertex : (m : Mesh) → length (flat_map (edges_from m) (finite.keys m.points)) ≡ length (edges m)
edges_by_vertex m = sym (by_vertex m (finite.keys m.points) (finite.keys m.points))

-- those of one vertex more are counted
pub counted_on : (m : Mesh) (n more v total : ℕ) (ids vs : List ℕ) → ids ≡ v ∷ vs → more ≡ length (edges_from m v) → n + length (flat_map (edges_from m) ids) ≡ total → (n + more) + length (flat_map (edges_from m) vs) ≡ total
counted_on m n more v total ids vs e is told =
    let split : length (flat_map (edges_from m) ids) ≡ length (edges_from m v) + length (flat_map (edges_from m) vs) = ap (λ l. length (flat_map (edges_from m) l)) e ∙ length-append (edges_from m v) (flat_map (edges_from m) vs) in
    omega (arith, split, is, told)

pub counted_all : (m : Mesh) (n total : ℕ) (ids : List ℕ) → ids ≡ [] → n + length (flat_map (edges_from m) ids) ≡ total → n ≡ total
counted_all m n total ids e told = let none : length (flat_map (edges_from m) ids) ≡ 0 = ap (λ l. length (flat_map (edges_from m) l)) e in omega (arith, none, told)
