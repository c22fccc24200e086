-- Clusters that the tree of their ways leaves out keep apart.
use Rattle.std.proofs.Common.{◌≡◌, ⊎_elim, ◌⊎◌, ℕ, Bool, true, false, ◌&&◌, List, Some, inl, inr, int_le, length, get_or, refl, sym, ap, subst, ◌∙◌}
use Rattle.std.specs.Prelude.{slice_get, IfSome}
use Rattle.std.specs.List.{All, Contains}
use Rattle.std.specs.Option.{option_map_or}
use Rattle.std.proofs.lemmas.Bool.{and_from, eqb-true}
use Rattle.std.proofs.lemmas.List.{get_or_default}
use Rattle.std.proofs.lemmas.List.Elements.{All-contains}
use Rattle.std.proofs.lemmas.Map.Views.{Contains-from_any}
use Rattle.std.proofs.lemmas.Option.{slice_get_read}
use Rattle.grid_base.specs.declared.Extent.{Extent}
use Rattle.grid_base.specs.Extents.{overlaps}
use Rattle.box_tree.specs.Labels.{is_apart}
use Rattle.box_tree.specs.Overlapping.{LabelledBoxes, overlaps_apart, overlapping_apart}
use Rattle.box_tree.proofs.Answered.{has-answer}
use Rattle.pair_paths.specs.Bounds.{AreBoxes}
use Rattle.neighbour_list.specs.declared.cluster_boxes.ClusterBoxes.{ClusterBoxes}
use Rattle.neighbour_list.specs.Clusters.{BoxesServe, IsWayBox}

swapped : (a b : Bool) → (a && b) ≡ (b && a)
swapped false false = refl
swapped false true = refl
swapped true false = refl
swapped true true = refl

overlaps_turned : (e f : Extent) → overlaps e f ≡ overlaps f e
overlaps_turned e f = λ i.
    swapped (int_le e.low.x f.high.x) (int_le f.low.x e.high.x) i
    && swapped (int_le e.low.y f.high.y) (int_le f.low.y e.high.y) i
    && swapped (int_le e.low.z f.high.z) (int_le f.low.z e.high.z) i

either : (b : Bool) → (b ≡ true) ⊎ (b ≡ false)
either true = inl refl
either false = inr refl

-- each of the boxes whose ways meet those of the one is among those that the tree finds
module _ (boxes : List ClusterBoxes) (m : LabelledBoxes) (held : AreBoxes IsWayBox boxes m) where
  found : (at : Extent) (k : ℕ) (b : ClusterBoxes) → slice_get boxes k ≡ Some b → overlaps b.swept at ≡ true → Contains (overlapping_apart m at 0 0) k
  found at k b there meet =
      let its = held.boxed k b there in
      let meets : overlaps (its.0).at at ≡ true = ap (λ e. overlaps e at) its.1.1 ∙ meet in
      Contains-from_any eqb-true k (overlapping_apart m at 0 0)
      (has-answer m at 0 0 k ∙ ap (λ o. option_map_or (overlaps_apart at 0 0) o false) its.1.0
      ∙ and_from (overlaps (its.0).at at) (is_apart (its.0).labels 0 0) meets refl)

  pub all_serve_by_places : (skin : ℕ) (a : ClusterBoxes) (places : List ℕ) → places ≡ overlapping_apart m a.swept 0 0 → All (λ k. IfSome (slice_get boxes k) (BoxesServe skin a)) places → All (BoxesServe skin a) boxes
  all_serve_by_places skin a places is serve j d lt =
      let b = get_or boxes j d in
      let there : slice_get boxes j ≡ Some b = slice_get_read boxes (length boxes) j b refl lt (get_or_default boxes j d b lt) in
      ⊎_elim
      (λ meet. subst (λ o. IfSome o (BoxesServe skin a)) there
      (All-contains (λ k. IfSome (slice_get boxes k) (BoxesServe skin a)) places j serve (subst (λ ks. Contains ks j) (sym is) (found a.swept j b there meet))))
      (λ apart. inl (overlaps_turned a.swept b.swept ∙ apart))
      (either (overlaps b.swept a.swept))
