-- The faces of a component, its vertices, and the sums over them.
use Rattle.std.proofs.Common.{◌≡◌, ℕ, zero, suc, ◌+◌, ◌*◌, ◌^◌, ◌<◌, ◌≤◌, Bool, true, false, cond, ◌||◌, ◌==◌, nat_lt, ℤ, pos, ◌+ℤ◌, unsigned_abs, List, [], ◌∷◌, ◌++◌, map, take, length, get_or, ⊎_elim, refl, sym, ap, subst, ◌∙◌, arith}
use Rattle.std.specs.Prelude.{◌↔◌}
use Rattle.std.proofs.lemmas.Bool.{false≢true}
use Rattle.std.proofs.lemmas.Bool.Decides.{nat_tests}
use Rattle.std.proofs.lemmas.Int.{ints}
use Rattle.std.proofs.Math.Nat.{suc-mul}
use Rattle.std.proofs.lemmas.List.{length-append, take_more, take_all}
use Rattle.std.proofs.lemmas.List.Kept.{IsStrictlySortedBy-filter}
use Rattle.std.proofs.lemmas.Map.Lookups.{exact_unsigned, btree_set_from_contains}
use Rattle.std.specs.Cmp.{nat_cmp_total, unsigned_tied}
use Rattle.std.specs.List.{flat_map, list_any, Contains}
use Rattle.std.specs.List.Sorted.{IsStrictlySortedBy}
use Rattle.std.specs.Ordering.{nat_cmp, eq_by_cmp}
use Rattle.std.specs.FinMap as finite
use Rattle.std.specs.FinMap.{entries_sorted, len-entries}
use Rattle.std.proofs.lemmas.Map.Entries.{length-keys_of}
use Rattle.std.specs.HashSet.{HashSet, IsEmpty}
use Rattle.grid_base.specs.declared.TheConstants.{VERTICES_MAX, FACES_MAX}
use Rattle.mesh_base.specs.Mesh.{Mesh, IsSound}
use Rattle.mesh_base.specs.Placements.{rest_positions}
use Rattle.mesh_base.specs.Sides.{has_corner, above, faces_at}
use Rattle.mesh_base.specs.Pairs.{is_edge}
use Rattle.mesh_base.specs.Changes.{corner_list}
use Rattle.mesh_base.proofs.InOrder.{keys_sorted}
use Rattle.mesh_base.proofs.Tests.{both_ways}
use Rattle.edit_base.specs.Classes.{is_one_of, Linked, class_of}
use Rattle.edit_base.specs.Edges.{corners_at}
use Rattle.edit_base.proofs.Chains.{Has, has_contained, passed, passes, near_is, test_at, is_linked, linked_has, contains_had}
use Rattle.mesh_measure.specs.declared.TheConstants.{DETERMINANT_MAX}
use Rattle.mesh_measure.specs.Above.{edges_from}
use Rattle.mesh_measure.specs.Components.{corners_in, vertices_of, edges_above, volume6_of, component_of, each_component}
use Rattle.mesh_measure.specs.declared.measured.Component.{Component}
use Rattle.mesh_measure.specs.Shape.{share_vertex}
use Rattle.mesh_measure.specs.Volume.{part_of}
use Rattle.mesh_measure.specs.Walk.{has_met, LeadsTo, Spreads, AreNew}
use Rattle.mesh_measure.proofs.Around.{in_some, in_all, corner_listed, listed_passes, face_listed, around_has, corner_live, live_listed}
use Rattle.mesh_measure.proofs.Classing.{IsCounting, counting_none, counting_on, begun, begun_on, begun_all, key_there, there_key, share_of, shared, led, first_corner}
use Rattle.mesh_measure.proofs.Meeting.{one_more_face}
use Rattle.mesh_measure.proofs.ShapeSteps.{kept_fewer}
use Rattle.mesh_measure.proofs.VolumeSteps.{few_ids}
use Rattle.mesh_base.proofs.MeshLaws.{few_live_vertices}

-- ---- lists in order that have the same numbers are the same
around_eq : (a b : ℕ) → (a == b) ≡ (b == a)
around_eq a b = grind (arith, nat_tests)

turned : (xs : List ℕ) (q : ℕ) → list_any (eq_by_cmp nat_cmp q) xs ≡ is_one_of xs q
turned [] q = refl
turned (x ∷ xs) q = ap (λ b. b || list_any (eq_by_cmp nat_cmp q) xs) (unsigned_tied q x ∙ around_eq q x) ∙ ap (λ b. (x == q) || b) (turned xs q)

pub same_risen : (xs ys : List ℕ) → IsStrictlySortedBy nat_cmp xs → IsStrictlySortedBy nat_cmp ys → ((q : ℕ) → is_one_of xs q ≡ is_one_of ys q) → xs ≡ ys
same_risen xs ys up up' same = btree_set_from_contains nat_cmp_total (record { keys = xs }) (record { keys = ys }) up up' (λ q. turned xs q ∙ same q ∙ sym (turned ys q)) exact_unsigned

-- ---- the vertices to which faces lead
module _ {S : Type 0} (m : Mesh) (v : ℕ) (old new : HashSet ℕ S) (us : List ℕ) (empty : IsEmpty old) (s : Spreads m v old new) (h : AreNew m v old new us) where
  none : (u : ℕ) → has_met old u ≡ false
  none u = ap (λ keys. list_any (λ k. u == k) keys) empty

  met_all : (u : ℕ) → LeadsTo m v u → has_met new u ≡ true
  met_all _ LeadsTo.here = s.first
  met_all _ (LeadsTo.further {v = p} {w = w} l has) = s.complete (λ u x e. absurd (false≢true (sym (none u) ∙ e))) p w (met_all p l) has

  pub led_is : (u : ℕ) → (is_one_of us u ≡ true) ↔ LeadsTo m v u
  led_is u = (h.led u, λ l. ⊎_elim (λ was. absurd (false≢true (sym (none u) ∙ was))) (λ is. is) (h.all u (met_all u l)))

-- ---- the faces to which faces lead are a class
module _ (m : Mesh) where
  abbrev keys : List ℕ
  keys = finite.keys m.faces

  pub class_sorted : (f : ℕ) → IsStrictlySortedBy nat_cmp (class_of (share_vertex m) (finite.keys m.faces) f)
  class_sorted f = subst (IsStrictlySortedBy nat_cmp) (sym (near_is (share_vertex m) (finite.keys m.faces) f (length (finite.keys m.faces))))
      (IsStrictlySortedBy-filter nat_cmp (test_at (share_vertex m) (finite.keys m.faces) f (length (finite.keys m.faces))) (finite.keys m.faces) (keys_sorted (finite.entries m.faces) (entries_sorted m.faces)))

  pub class_live : (f g : ℕ) → Has (class_of (share_vertex m) (finite.keys m.faces) f) g → Has (finite.keys m.faces) g
  class_live f g has = (is_linked (share_vertex m) (finite.keys m.faces) f (length (finite.keys m.faces)) g has).0

  pub class_few : IsSound m → (f : ℕ) → length (class_of (share_vertex m) (finite.keys m.faces) f) ≤ FACES_MAX
  class_few sound f =
      let is = ap length (near_is (share_vertex m) (finite.keys m.faces) f (length (finite.keys m.faces))) in
      let fewer = kept_fewer (test_at (share_vertex m) (finite.keys m.faces) f (length (finite.keys m.faces))) (finite.keys m.faces) in
      let few = few_ids m sound in
      omega (arith, is, fewer, few)

  module _ (f v : ℕ) (f_in : Has (finite.keys m.faces) f) (f_at : has_corner (corners_at m f) v ≡ true) where
    -- to the corners of the faces to which a chain leads, faces lead
    led_back : (y : ℕ) → Linked (share_vertex m) (finite.keys m.faces) f y → (u : ℕ) → has_corner (corners_at m y) u ≡ true → LeadsTo m v u
    led_back _ Linked.itself u at = LeadsTo.further LeadsTo.here (around_has m f v u (key_there m f f_in) f_at at)
    led_back _ (Linked.further {y = z} {z = y} l there step) u at =
        let p = shared m z y step in
        LeadsTo.further (led_back z l p.0 p.1) (around_has m y p.0 u (key_there m y (at_key there)) p.2 at)
      where
        at_key : {y : ℕ} → Contains (finite.keys m.faces) y → Has (finite.keys m.faces) y
        at_key {y} there = has_contained (finite.keys m.faces) y there

    pub class_is : (us faces : List ℕ) → ((u : ℕ) → (is_one_of us u ≡ true) ↔ LeadsTo m v u) → IsStrictlySortedBy nat_cmp faces
        → ((q : ℕ) → is_one_of faces q ≡ is_one_of (flat_map (faces_at m) us) q) → faces ≡ class_of (share_vertex m) (finite.keys m.faces) f
    class_is us faces leads up same = same_risen faces (class_of (share_vertex m) (finite.keys m.faces) f) up (class_sorted f)
        (λ q. same q ∙ both_ways (is_one_of (flat_map (faces_at m) us) q) (is_one_of (class_of (share_vertex m) (finite.keys m.faces) f) q) (there q) (back q))
      where
        there : (q : ℕ) → Has (flat_map (faces_at m) us) q → Has (class_of (share_vertex m) (finite.keys m.faces) f) q
        there q has =
            let u = in_some (faces_at m) us q has in
            let is = listed_passes m (λ c. has_corner c u.0) q u.2 in
            let y = led m f v f_in f_at u.0 ((leads u.0).0 u.1) in
            let q_in = there_key m q (corners_at m q) is.0 in
            linked_has (share_vertex m) (finite.keys m.faces) f q f_in (Linked.further y.2 (contains_had (finite.keys m.faces) q q_in) (share_of m y.0 q u.0 y.3 is.1))

        back : (q : ℕ) → Has (class_of (share_vertex m) (finite.keys m.faces) f) q → Has (flat_map (faces_at m) us) q
        back q has =
            let is = is_linked (share_vertex m) (finite.keys m.faces) f (length (finite.keys m.faces)) q has in
            let first = (corners_at m q).first in
            let at = first_corner (corners_at m q) (corners_at m q) refl in
            in_all (faces_at m) us first q ((leads first).1 (led_back q is.1 first at)) (face_listed m (λ c. has_corner c first) q (corners_at m q) (key_there m q is.0) at)

-- ---- the vertices of some faces
module _ (m : Mesh) (sound : IsSound m) (faces : List ℕ) (live : (f : ℕ) → Has faces f → Has (finite.keys m.faces) f) where
  pub vertices_are : (vs : List ℕ) → IsStrictlySortedBy nat_cmp vs → ((q : ℕ) → is_one_of vs q ≡ is_one_of (corners_in m faces) q) → vs ≡ vertices_of m faces
  vertices_are vs up same = same_risen vs (vertices_of m faces) up
      (IsStrictlySortedBy-filter nat_cmp (λ v. is_one_of (corners_in m faces) v) (finite.keys m.points) (keys_sorted (finite.entries m.points) (entries_sorted m.points)))
      (λ q. same q ∙ both_ways (is_one_of (corners_in m faces) q) (is_one_of (vertices_of m faces) q)
      (λ has. passes (λ v. is_one_of (corners_in m faces) v) (finite.keys m.points) q (there q has) has)
      (λ has. (passed (λ v. is_one_of (corners_in m faces) v) (finite.keys m.points) q has).1))
    where
      there : (q : ℕ) → Has (corners_in m faces) q → Has (finite.keys m.points) q
      there q has =
          let f = in_some (λ g. corner_list (corners_at m g)) faces q has in
          live_listed m q (corner_live m (corners_at m f.0) q (sound.is_mesh.live_corners f.0 (corners_at m f.0) (key_there m f.0 (live f.0 f.1))) (corner_listed (corners_at m f.0) q f.2))

pub few_points : (m : Mesh) → IsSound m → length (finite.keys m.points) ≤ VERTICES_MAX
few_points m sound = omega (arith, length-keys_of (finite.entries m.points), len-entries m.points, few_live_vertices m sound)

pub few_vertices : (m : Mesh) → IsSound m → (faces : List ℕ) → length (vertices_of m faces) ≤ VERTICES_MAX
few_vertices m sound faces =
    let fewer = kept_fewer (λ v. is_one_of (corners_in m faces) v) (finite.keys m.points) in
    let few = few_points m sound in
    omega (arith, fewer, few)

-- ---- edges
few_from : (m : Mesh) → IsSound m → (v : ℕ) → length (edges_from m v) ≤ VERTICES_MAX
few_from m sound v =
    let one = kept_fewer (λ u. is_edge m v u) (above v (finite.keys m.points)) in
    let two = kept_fewer (λ u. nat_lt v u) (finite.keys m.points) in
    let few = few_points m sound in
    omega (arith, one, two, few)

spread : (k most : ℕ) → suc k * most ≡ most + k * most
spread k most = omega (arith, suc-mul k most)

taken_few : (f : ℕ → List ℕ) (most : ℕ) (n : ℕ) (xs : List ℕ) → ((x : ℕ) → length (f x) ≤ most) → length (flat_map f (take n xs)) ≤ length xs * most
taken_few f most zero xs h = omega arith
taken_few f most (suc n) [] h = omega arith
taken_few f most (suc n) (x ∷ xs) h =
    let first = h x in
    let rest = taken_few f most n xs h in
    let both : length (f x ++ flat_map f (take n xs)) ≤ most + length xs * most = omega (arith, length-append (f x) (flat_map f (take n xs)), first, rest) in
    subst (λ k. length (f x ++ flat_map f (take n xs)) ≤ k) (sym (spread (length xs) most)) both

pub few_taken : (m : Mesh) → IsSound m → (n : ℕ) (vs : List ℕ) → length vs ≤ VERTICES_MAX → length (edges_above m (take n vs)) ≤ VERTICES_MAX * VERTICES_MAX
few_taken m sound n vs few = let h = taken_few (edges_from m) VERTICES_MAX n vs (few_from m sound) in omega (arith, h, few)

pub few_above : (m : Mesh) → IsSound m → (vs : List ℕ) → length vs ≤ VERTICES_MAX → length (edges_above m vs) ≤ VERTICES_MAX * VERTICES_MAX
few_above m sound vs few = subst (λ l. length (edges_above m l) ≤ VERTICES_MAX * VERTICES_MAX) (take_all (length vs) vs (omega arith)) (few_taken m sound (length vs) vs few)

pub counted_more : (m : Mesh) (vs : List ℕ) (i x n more : ℕ) → i < length vs → x ≡ get_or vs i x → n ≡ length (edges_above m (take i vs)) → more ≡ length (edges_from m x) → n + more ≡ length (edges_above m (take (i + 1) vs))
counted_more m vs i x n more low is told new =
    let parts = length-append (flat_map (edges_from m) (take i vs)) (edges_from m x) in
    let whole = ap length (one_more_face (edges_from m) vs i x low is) in
    omega (arith, whole, parts, told, new)

-- ---- volumes
at_end : (m : Mesh) (xs : List ℕ) (x : ℕ) → volume6_of m (xs ++ x ∷ []) ≡ volume6_of m xs +ℤ part_of (rest_positions m) (finite.get m.faces x)
at_end m [] x = swapped (part_of (rest_positions m) (finite.get m.faces x))
  where
    swapped : (p : ℤ) → p +ℤ pos 0 ≡ pos 0 +ℤ p
    swapped p = omega (arith, ints)
at_end m (y ∷ ys) x = ap (λ n. part_of (rest_positions m) (finite.get m.faces y) +ℤ n) (at_end m ys x) ∙ grouped (part_of (rest_positions m) (finite.get m.faces y)) (volume6_of m ys) (part_of (rest_positions m) (finite.get m.faces x))
  where
    grouped : (p q r : ℤ) → p +ℤ (q +ℤ r) ≡ (p +ℤ q) +ℤ r
    grouped p q r = omega (arith, ints)

pub summed_more : (m : Mesh) (xs : List ℕ) (i x : ℕ) (s p : ℤ) → i < length xs → x ≡ get_or xs i x → s ≡ volume6_of m (take i xs) → p ≡ part_of (rest_positions m) (finite.get m.faces x) → s +ℤ p ≡ volume6_of m (take (i + 1) xs)
summed_more m xs i x s p low is told new =
    ap (λ n. n +ℤ p) told
    ∙ ap (λ n. volume6_of m (take i xs) +ℤ n) new
    ∙ sym (at_end m (take i xs) x)
    ∙ ap (λ y. volume6_of m (take i xs ++ y ∷ [])) is
    ∙ ap (volume6_of m) (sym (take_more xs i x low))

pub grown_more : (s p : ℤ) (i : ℕ) → unsigned_abs s ≤ i * DETERMINANT_MAX → unsigned_abs p ≤ DETERMINANT_MAX → unsigned_abs (s +ℤ p) ≤ (i + 1) * DETERMINANT_MAX
grown_more s p i h k = omega (arith, ints, h, k)

-- ---- the components
-- The components that begin with the faces before the ith are listed, and their vertices are met.
pub record IsListing {S : Type 0} (m : Mesh) (met : HashSet ℕ S) (listed : List Component) (i : ℕ) : Type 0 where
  pub counting : IsCounting m met (length listed) i
  pub are : listed ≡ map (component_of m) (begun m i)

pub listing_none : {S : Type 0} (m : Mesh) (met : HashSet ℕ S) → IsEmpty met → IsListing m met [] 0
listing_none m met empty = record { counting = counting_none m met empty; are = refl }

module _ {S : Type 0} (m : Mesh) (met next : HashSet ℕ S) (listed more : List Component) (i x v : ℕ) (h : IsListing m met listed i) (low : i < length (finite.keys m.faces)) (is : x ≡ get_or (finite.keys m.faces) i 0) (at : has_corner (corners_at m x) v ≡ true) (s : Spreads m v met next)
    (put : more ≡ cond (has_met met v) listed (listed ++ component_of m (class_of (share_vertex m) (finite.keys m.faces) x) ∷ [])) where
  abbrev here : List ℕ
  here = class_of (share_vertex m) (finite.keys m.faces) x

  at_last : (f : List ℕ → Component) (cs : List (List ℕ)) (k : List ℕ) → map f (cs ++ k ∷ []) ≡ map f cs ++ f k ∷ []
  at_last f [] k = refl
  at_last f (d ∷ ds) k = ap (λ l. f d ∷ l) (at_last f ds k)

  many : length more ≡ length listed + cond (has_met met v) 0 1
  many = ap length put ∙ by_test (has_met met v)
    where
      by_test : (b : Bool) → length (cond b listed (listed ++ component_of m here ∷ [])) ≡ length listed + cond b 0 1
      by_test true = omega arith
      by_test false = length-append listed (component_of m here ∷ [])

  pub listing_on : IsListing m next more (i + 1)
  listing_on = record {
    counting = subst (λ n. IsCounting m next n (i + 1)) (sym many) (counting_on m met next (length listed) i x v (cond (has_met met v) 0 1) h.counting low is at s refl);
    are = put ∙ ap (λ l. cond (has_met met v) l (l ++ component_of m here ∷ [])) h.are ∙ by_test (has_met met v) ∙ ap (map (component_of m)) (sym (begun_on m met next (length listed) i x v (cond (has_met met v) 0 1) h.counting low is at s refl));
  }
    where
      by_test : (b : Bool) → cond b (map (component_of m) (begun m i)) (map (component_of m) (begun m i) ++ component_of m here ∷ []) ≡ map (component_of m) (cond b (begun m i) (begun m i ++ here ∷ []))
      by_test true = refl
      by_test false = sym (at_last (component_of m) (begun m i) here)

pub listed_all : {S : Type 0} (m : Mesh) (met : HashSet ℕ S) (listed : List Component) (i : ℕ) → IsListing m met listed i → length (finite.keys m.faces) ≤ i → listed ≡ each_component m
listed_all m met listed i h end = h.are ∙ ap (map (component_of m)) (begun_all m i end)

pub sum_fits : (s : ℤ) (i n : ℕ) → i ≤ n → n ≤ FACES_MAX → unsigned_abs s ≤ i * DETERMINANT_MAX → unsigned_abs s < 2 ^ 110
sum_fits s i n low few h = omega (arith, low, few, h)
