-- What a map has at the keys in order is what its entries have in order.
use Rattle.std.proofs.Common.{◌≡◌, ℕ, zero, suc, ◌+◌, ◌<◌, ◌≤◌, List, [], ◌∷◌, ◌++◌, length, get_or, take, map, Option, Some, None, ap, sym, ◌∙◌, arith}
use Rattle.std.specs.List.{AllByRecursion}
use Rattle.std.specs.Option.{option_map}
use Rattle.std.specs.Ordering.{nat_cmp}
use Rattle.std.specs.FinMap as finite
use Rattle.std.specs.FinMap.{FinMap, get-entries, entries_sorted, len-entries}
use Rattle.std.specs.FinMap.Entries.{find}
use Rattle.std.proofs.lemmas.List.{take_more, length-map}
use Rattle.mesh_base.proofs.Listed.{each_found}
use Rattle.grid_base.specs.declared.TheConstants.{VERTICES_MAX}
use Rattle.mesh_base.proofs.MeshLaws.{few_live_vertices}
use Rattle.mesh_base.specs.declared.Corners.{Corners}
use Rattle.mesh_base.specs.Changes.{corner_list}
use Rattle.mesh_base.specs.Mesh.{Mesh, IsSound}

module _ {X Y : Type 0} (m : FinMap nat_cmp X) (f : X → Y) where
  abbrev Found : ℕ × X → Type 0
  Found e = find nat_cmp e.0 (finite.entries m) ≡ Some e.1

  value_along : (es : List (ℕ × X)) → AllByRecursion Found es → (i d : ℕ) (x : X) (y : Y) → i < length (map (λ e. e.0) es) → finite.get m (get_or (map (λ e. e.0) es) i d) ≡ Some x → get_or (map (λ e. f e.1) es) i y ≡ f x
  value_along [] h i d x y lt has = absurd (omega arith)
  value_along (e ∷ es) h zero d x y lt has = let found : finite.get m e.0 ≡ Some e.1 = get-entries m e.0 ∙ h.0 in let same : e.1 ≡ x = cc in ap f same
  value_along (e ∷ es) h (suc i) d x y lt has = value_along es h.1 i d x y (omega arith) has

  abbrev values : List Y
  values = map (λ e. f e.1) (finite.entries m)

  -- what stands at the next key is the next value
  pub next_value : (keys : List ℕ) (i v : ℕ) (x : X) → keys ≡ finite.keys m → i < length keys → v ≡ get_or keys i v → finite.get m v ≡ Some x → take i values ++ f x ∷ [] ≡ take (i + 1) values
  next_value keys i v x all lt at has =
      let few : i < length (finite.keys m) = omega (arith, ap length all) in
      let here : finite.get m (get_or (finite.keys m) i v) ≡ Some x = ap (λ (k : ℕ). finite.get m k) (sym (at ∙ ap (λ (ks : List ℕ). get_or ks i v) all)) ∙ has in
      let value : get_or values i (f x) ≡ f x = value_along (finite.entries m) (each_found (finite.entries m) (entries_sorted m)) i v x (f x) few here in
      let among : i < length values = omega (arith, few, length-map (finite.entries m) (λ e. e.0), length-map (finite.entries m) (λ e. f e.1)) in
      ap (λ (y : Y). take i values ++ y ∷ []) (sym value) ∙ sym (take_more values i (f x) among)

  -- there are as many values as keys
  pub as_many : (keys : List ℕ) → keys ≡ finite.keys m → length values ≡ length keys
  as_many keys all = length-map (finite.entries m) (λ e. f e.1) ∙ sym (length-map (finite.entries m) (λ e. e.0)) ∙ sym (ap length all)

-- the corners that are listed
pub corners_listed : (o : Option Corners) (found : List ℕ) → option_map corner_list o ≡ Some found → (c : Corners) × (o ≡ Some c) × (found ≡ corner_list c)
corners_listed (Some c) found is = (c, cc, cc)
corners_listed None found is = absurd (cc)

-- few vertices live
pub few_ids : (m : Mesh) (ids : List ℕ) → IsSound m → ids ≡ finite.keys m.points → length ids ≤ VERTICES_MAX
few_ids m ids sound all = omega (arith, ap length all, length-map (finite.entries m.points) (λ e. e.0), len-entries m.points, few_live_vertices m sound)
