-- What the answer to a question says.
use Rattle.std.proofs.Common.{Ordering, ◌≡◌, ◌∙◌, ℕ, Bool, true, false, ◌||◌, not, List, [], ◌∷◌, Option, Some, None, refl, sym, ap, ◌↔◌, T}
use Rattle.std.specs.Ordering.{nat_cmp, is_lt}
use Rattle.std.specs.declared.cmp.Ordering.TheVariants.{Less, Equal, Greater}
use Rattle.std.specs.Cmp.{nat_eq_equiv}
use Rattle.std.specs.List.{AllByRecursion, Contains, filter}
use Rattle.std.specs.List.Sorted.{IsStrictlySortedBy, IsStrictlyIncreasing}
use Rattle.std.specs.Map.{keys_of}
use Rattle.std.specs.Option.{option_map_or, IsSomeAnd}
use Rattle.std.specs.FinMap as map
use Rattle.std.specs.FinMap.{entries_sorted}
use Rattle.std.specs.FinMap.Entries.{is_sorted, below_all}
use Rattle.std.proofs.lemmas.Bool.{and_parts, and_from, eqb-true, false≢true}
use Rattle.std.proofs.lemmas.Map.Keys.{IsStrictlyIncreasing-from_sorted}
use Rattle.std.proofs.lemmas.Map.Views.{Contains-from_any, list_any-from_Contains}
use Rattle.grid_base.specs.declared.Extent.{Extent}
use Rattle.grid_base.specs.Extents.{overlaps, HaveCommonPoint}
use Rattle.cell_grid.proofs.Listed.{left_true, right_true}
use Rattle.cell_grid.proofs.Shared.{overlap_common}
use Rattle.box_tree.specs.declared.labelled_box.LabelledBox.{LabelledBox}
use Rattle.box_tree.specs.Labels.{has_label, is_apart}
use Rattle.box_tree.specs.Overlapping.{LabelledBoxes, overlaps_apart, overlapping_apart, IsItemApart}
use Rattle.box_tree.proofs.Answered.{has-answer, sorted-filter}

-- ---- it rises
is_less : (o : Ordering) → T (is_lt o) → o ≡ Less
is_less Less h = refl
is_less Equal h = absurd h
is_less Greater h = absurd h

keys_above : {X : Type 0} (k : ℕ) (es : List (ℕ × X)) → T (below_all nat_cmp k es) → AllByRecursion (λ y. nat_cmp k y ≡ Less) (keys_of es)
keys_above k [] h = tt
keys_above k (e ∷ es) h = (is_less (nat_cmp k e.0) (left_true (is_lt (nat_cmp k e.0)) _ h), keys_above k es (right_true (is_lt (nat_cmp k e.0)) _ h))

keys_rise : {X : Type 0} (es : List (ℕ × X)) → T (is_sorted nat_cmp es) → IsStrictlySortedBy nat_cmp (keys_of es)
unfolding IsStrictlySortedBy
keys_rise [] h = tt
keys_rise (e ∷ es) h = (keys_above e.0 es (left_true (below_all nat_cmp e.0 es) _ h), keys_rise es (right_true (below_all nat_cmp e.0 es) _ h))

pub answer_rises : (m : LabelledBoxes) (at : Extent) (a b : ℕ) → IsStrictlyIncreasing (overlapping_apart m at a b)
answer_rises m at a b =
    let p : ℕ × LabelledBox → Bool = λ e. overlaps_apart at a b e.1 in
    IsStrictlyIncreasing-from_sorted (overlapping_apart m at a b) (keys_rise (filter p (map.entries m)) (sorted-filter p (map.entries m) (entries_sorted m)))

-- ---- it has the items whose boxes have a common point with the one asked for and neither label, and no others
neither_from : (x y : Bool) → not (x || y) ≡ true → (x ≡ false) × (y ≡ false)
neither_from true y h = absurd (false≢true h)
neither_from false true h = absurd (false≢true h)
neither_from false false h = (refl, refl)

neither_to : (x y : Bool) → x ≡ false → y ≡ false → not (x || y) ≡ true
neither_to x y h k = ap (λ z. not (z || y)) h ∙ ap not k

module _ (at : Extent) (a b : ℕ) where
  abbrev IsApart : LabelledBox → Type 0
  IsApart e = HaveCommonPoint e.at at × ((has_label e.labels a ≡ false) × (has_label e.labels b ≡ false))

  apart_from : (o : Option LabelledBox) → option_map_or (overlaps_apart at a b) o false ≡ true → IsSomeAnd o IsApart
  apart_from None h = absurd (false≢true h)
  apart_from (Some e) h =
      let p = and_parts (overlaps e.at at) (is_apart e.labels a b) h in
      ((overlap_common e.at at).0 p.0, neither_from (has_label e.labels a) (has_label e.labels b) p.1)

  apart_to : (o : Option LabelledBox) → IsSomeAnd o IsApart → option_map_or (overlaps_apart at a b) o false ≡ true
  apart_to None h = absurd h
  apart_to (Some e) h = and_from (overlaps e.at at) (is_apart e.labels a b) ((overlap_common e.at at).1 h.0) (neither_to (has_label e.labels a) (has_label e.labels b) h.1.0 h.1.1)

pub answer_has : (m : LabelledBoxes) (at : Extent) (a b i : ℕ) → Contains (overlapping_apart m at a b) i ↔ IsItemApart m at a b i
answer_has m at a b i = (
  λ h. apart_from at a b (map.get m i) (sym (has-answer m at a b i) ∙ list_any-from_Contains nat_eq_equiv i (overlapping_apart m at a b) h),
  λ h. Contains-from_any eqb-true i (overlapping_apart m at a b) (has-answer m at a b i ∙ apart_to at a b (map.get m i) h),
)
