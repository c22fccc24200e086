-- The faces near a box are those that the boxes lead to and that are near.
use Rattle.std.proofs.Common.{◌≡◌, ◌≤ℤ◌, ⊎_elim, ℕ, ℤ, int_le, Bool, true, false, T, ◌&&◌, ◌||◌, nat_eq, List, [], ◌∷◌, Option, Some, None, IsSome, is_some, refl, sym, ap, subst, ◌∙◌, arith}
use Rattle.std.specs.Ordering.{nat_cmp, eq_by_cmp}
use Rattle.std.specs.Cmp.{unsigned_tied}
use Rattle.std.specs.List.{filter, list_any}
use Rattle.std.specs.List.Sorted.{IsStrictlySortedBy}
use Rattle.std.specs.Map.{keys_of}
use Rattle.std.specs.Option.{option_map_or}
use Rattle.std.specs.FinMap as map
use Rattle.std.specs.FinMap.{entries_sorted, contains_key-keys}
use Rattle.std.specs.FinMap.Entries.{is_sorted}
use Rattle.std.proofs.lemmas.Bool.{and_parts, and_from, or_cases, false≢true}
use Rattle.std.proofs.lemmas.Int.{ints}
use Rattle.std.proofs.lemmas.List.Kept.{IsStrictlySortedBy-filter}
use Rattle.grid_base.specs.declared.Extent.{Extent}
use Rattle.grid_base.specs.Triples.{Triple}
use Rattle.grid_base.specs.Extents.{IsIn, meet_along, overlaps}
use Rattle.cell_grid.specs.Filed.{has}
use Rattle.cell_grid.specs.Overlapping.{HasEachAt}
use Rattle.cell_grid.proofs.Found.{has-filter}
use Rattle.cell_grid.proofs.Listed.{same_rising}
use Rattle.mesh_base.specs.declared.ids.Corners.{Corners}
use Rattle.mesh_base.specs.Mesh.{Mesh}
use Rattle.mesh_base.specs.Near.{one_at_most, one_at_least, reach_along, box_meets, is_some_near, is_near, is_face_near, faces_near}
use Rattle.mesh_base.specs.Placements.{rest_positions_doubled}
use Rattle.mesh_base.proofs.InOrder.{keys_sorted}
use Rattle.mesh_base.proofs.Ordered.{entries-made}
use Rattle.mesh_journal.specs.Boxed.{Boxes, HoldsCorners, AreBoxed}

-- ---- two rising lists with the same members are equal
abbrev tagged : List ℕ → List (ℕ × ℕ)
tagged [] = []
tagged (x ∷ xs) = (x, 0) ∷ tagged xs

keys-tagged : (xs : List ℕ) → keys_of (tagged xs) ≡ xs
keys-tagged [] = refl
keys-tagged (x ∷ xs) = ap (λ ys. x ∷ ys) (keys-tagged xs)

sorted-tagged : (xs : List ℕ) → IsStrictlySortedBy nat_cmp xs → T (is_sorted nat_cmp (tagged xs))
sorted-tagged xs s =
    subst (λ es. T (is_sorted nat_cmp es)) (entries-made (tagged xs) (subst (IsStrictlySortedBy nat_cmp) (sym (keys-tagged xs)) s))
    (entries_sorted (map.from_entries {R = nat_cmp} (tagged xs)))

same_members : (xs ys : List ℕ) → IsStrictlySortedBy nat_cmp xs → IsStrictlySortedBy nat_cmp ys → ((q : ℕ) → has q xs ≡ has q ys) → xs ≡ ys
same_members xs ys s t same = same_rising xs (tagged ys) s (sorted-tagged ys t) (λ q. same q ∙ ap (has q) (sym (keys-tagged ys))) ∙ keys-tagged ys

-- ---- a box with a face that is near has a common point
to_true : (b : Bool) → T b → b ≡ true
to_true true h = refl
to_true false h = absurd h

from_true : (b : Bool) → b ≡ true → T b
from_true b e = subst T (sym e) tt

chain : (a b c : ℤ) → a ≤ℤ b → int_le b c ≡ true → int_le a c ≡ true
chain a b c h e = let i : b ≤ℤ c = record { le = from_true _ e } in let j : a ≤ℤ c = omega (arith, ints) in to_true _ j.le

chain_back : (a b c : ℤ) → int_le a b ≡ true → b ≤ℤ c → int_le a c ≡ true
chain_back a b c e h = let i : a ≤ℤ b = record { le = from_true _ e } in let j : a ≤ℤ c = omega (arith, ints) in to_true _ j.le

one_of : (x y z w : Bool) → (x ≡ true → w ≡ true) → (y ≡ true → w ≡ true) → (z ≡ true → w ≡ true) → (x || y || z) ≡ true → w ≡ true
one_of x y z w f g h e = ⊎_elim (λ xy. ⊎_elim f g (or_cases x y xy)) h (or_cases (x || y) z e)

meets_along : (low high l h a b c : ℤ) → l ≤ℤ a → a ≤ℤ h → l ≤ℤ b → b ≤ℤ h → l ≤ℤ c → c ≤ℤ h → reach_along low high a b c ≡ true → meet_along l h low high ≡ true
meets_along low high l h a b c la ah lb bh lc ch e =
    let parts = and_parts (one_at_most high a b c) (one_at_least low a b c) e in
    and_from _ _
    (one_of (int_le a high) (int_le b high) (int_le c high) _ (chain l a high la) (chain l b high lb) (chain l c high lc) parts.0)
    (one_of (int_le low a) (int_le low b) (int_le low c) _ (λ x. chain_back low a h x ah) (λ x. chain_back low b h x bh) (λ x. chain_back low c h x ch) parts.1)

near_overlaps : (e at : Extent) (p q r : Triple) → IsIn e p → IsIn e q → IsIn e r → box_meets at p q r ≡ true → overlaps e at ≡ true
near_overlaps e at p q r a b c h =
    let xs : Bool = reach_along at.low.x at.high.x p.x q.x r.x in
    let ys : Bool = reach_along at.low.y at.high.y p.y q.y r.y in
    let zs : Bool = reach_along at.low.z at.high.z p.z q.z r.z in
    let all = and_parts (xs && ys) zs h in
    let two = and_parts xs ys all.0 in
    and_from _ _
    (and_from _ _
    (meets_along at.low.x at.high.x e.low.x e.high.x p.x q.x r.x a.x_low a.x_high b.x_low b.x_high c.x_low c.x_high two.0)
    (meets_along at.low.y at.high.y e.low.y e.high.y p.y q.y r.y a.y_low a.y_high b.y_low b.y_high c.y_low c.y_high two.1))
    (meets_along at.low.z at.high.z e.low.z e.high.z p.z q.z r.z a.z_low a.z_high b.z_low b.z_high c.z_low c.z_high all.1)

-- ---- a near face has corners, and its box is found
near_corners : (m : Mesh) (at : Extent) (o : Option Corners) → is_some_near m at o ≡ true → (c : Corners) × ((o ≡ Some c) × (is_near m at c ≡ true))
near_corners m at (Some c) h = (c, (refl, h))
near_corners m at None h = absurd (false≢true h)

has_common : (b : Boxes) (m : Mesh) (at : Extent) (f : ℕ) (c : Corners) (o : Option Extent) → map.get b f ≡ o → HoldsCorners (Some b) m f c → is_near m at c ≡ true → option_map_or (λ e. overlaps e at) o false ≡ true
has_common b m at f c (Some e) got h near =
    near_overlaps e at (rest_positions_doubled m c.first) (rest_positions_doubled m c.second) (rest_positions_doubled m c.third)
    ((h.first b refl).around e got) ((h.second b refl).around e got) ((h.third b refl).around e got) near
has_common b m at f c None got h near = let there : IsSome (map.get b f) = (h.first b refl).there in absurd (false≢true (sym (ap is_some got) ∙ there))

pub any_alike : (q : ℕ) (ks : List ℕ) → list_any (eq_by_cmp nat_cmp q) ks ≡ has q ks
any_alike q [] = refl
any_alike q (k ∷ ks) = ap (λ b. b || list_any (eq_by_cmp nat_cmp q) ks) (unsigned_tied q k) ∙ ap (λ b. (nat_eq q k) || b) (any_alike q ks)

module _ (b : Boxes) (m : Mesh) (at : Extent) (boxed : AreBoxed (Some b) m) (items : List ℕ) (rising : IsStrictlySortedBy nat_cmp items) (each : HasEachAt b at items) where
  found : (f : ℕ) → is_face_near m at f ≡ true → has f items ≡ true
  found f near =
      let (c, is) = near_corners m at (map.get m.faces f) near in
      each f (has_common b m at f c (map.get b f) refl (boxed f c is.0) is.1)

  lives : (f : ℕ) → is_face_near m at f ≡ true → has f (map.keys m.faces) ≡ true
  lives f near =
      let (c, is) = near_corners m at (map.get m.faces f) near in
      sym (contains_key-keys m.faces f ∙ any_alike f (map.keys m.faces)) ∙ ap is_some is.0

  same : (f : ℕ) → (is_face_near m at f && has f items) ≡ (is_face_near m at f && has f (map.keys m.faces))
  same f = elim (is_face_near m at f) as (λ x. is_face_near m at f ≡ x → (x && has f items) ≡ (x && has f (map.keys m.faces))) [
    | true ↦ λ near. found f near ∙ sym (lives f near)
    | false ↦ λ far. refl
  ] refl

  pub near_found : filter (λ f. is_face_near m at f) items ≡ faces_near m at
  near_found =
      let test : ℕ → Bool = λ f. is_face_near m at f in
      same_members (filter test items) (filter test (map.keys m.faces))
      (IsStrictlySortedBy-filter nat_cmp test items rising)
      (IsStrictlySortedBy-filter nat_cmp test (map.keys m.faces) (keys_sorted (map.entries m.faces) (entries_sorted m.faces)))
      (λ q. has-filter test q items ∙ same q ∙ sym (has-filter test q (map.keys m.faces)))
