-- What a question finds in the map that the entries make.
use Rattle.std.proofs.Common.{⊎_elim, ◌<◌, ◌≡◌, ◌∙◌, ℕ, Bool, true, false, cond, ◌&&◌, nat_eq, List, [], ◌∷◌, ◌++◌, length, reverse, Option, Some, None, refl, sym, ap, subst, T, ◌≤◌, arith}
use Rattle.std.specs.Ordering.{nat_cmp, is_lt}
use Rattle.std.specs.Cmp.{nat_eq_equiv, unsigned_tied}
use Rattle.std.specs.List.{AllByRecursion, filter, IsDistinct}
use Rattle.std.specs.List.Sorted.{IsStrictlySortedBy}
use Rattle.std.specs.Map.{lookup, keys_of}
use Rattle.std.specs.Option.{option_map_or, is_some}
use Rattle.std.specs.FinMap as map
use Rattle.std.specs.FinMap.{get-entries, entries_sorted}
use Rattle.std.specs.FinMap.Entries.{is_sorted, below_all}
use Rattle.std.proofs.lemmas.Map.Keys.{IsDistinct-cons}
use Rattle.std.proofs.lemmas.Map.Made.{is_some-lookup, IsDistinct-keys_filter, length-from_same_keys}
use Rattle.std.proofs.lemmas.Bool.{and_parts, cases_Bool, false≢true}
use Rattle.std.proofs.lemmas.Map.Entries.{option_filter, lookup-filter-values, length-keys_of}
use Rattle.grid_base.specs.declared.Extent.{Extent}
use Rattle.grid_base.specs.Extents.{overlaps}
use Rattle.cell_grid.specs.Filed.{has}
use Rattle.cell_grid.proofs.Listed.{find_is_lookup, get_made, left_true, right_true, lt_not_eq, same_rising}
use Rattle.box_tree.specs.declared.labelled_box.LabelledBox.{LabelledBox}
use Rattle.box_tree.specs.declared.question.Question.{Question}
use Rattle.box_tree.specs.declared.node.Node.{Node}
use Rattle.box_tree.specs.Found.{AreNear, entries_found}
use Rattle.box_tree.specs.Labels.{is_apart}
use Rattle.box_tree.specs.Nodes.{entries, finds, items_found}
use Rattle.box_tree.specs.Overlapping.{LabelledBoxes, overlaps_apart, overlapping, overlapping_apart}

both_true : (a b : Bool) → T a → T b → T (a && b)
both_true true b p q = q
both_true false b p q = p

module _ {X : Type 0} where
  -- ---- entries in the order of their keys
  below_all-filter : (p : ℕ × X → Bool) (k : ℕ) (es : List (ℕ × X)) → T (below_all nat_cmp k es) → T (below_all nat_cmp k (filter p es))
  below_all-filter p k [] h = tt
  below_all-filter p k (e ∷ es) h =
      let rest = below_all-filter p k es (right_true (is_lt (nat_cmp k e.0)) _ h) in
      elim (p e) as (λ b. T (below_all nat_cmp k (cond b (e ∷ filter p es) (filter p es)))) [
        | true ↦ both_true _ _ (left_true (is_lt (nat_cmp k e.0)) _ h) rest
        | false ↦ rest
      ]

  pub sorted-filter : (p : ℕ × X → Bool) (es : List (ℕ × X)) → T (is_sorted nat_cmp es) → T (is_sorted nat_cmp (filter p es))
  sorted-filter p [] h = tt
  sorted-filter p (e ∷ es) h =
      let rest = sorted-filter p es (right_true (below_all nat_cmp e.0 es) _ h) in
      elim (p e) as (λ b. T (is_sorted nat_cmp (cond b (e ∷ filter p es) (filter p es)))) [
        | true ↦ both_true _ _ (below_all-filter p e.0 es (left_true (below_all nat_cmp e.0 es) _ h)) rest
        | false ↦ rest
      ]

  distinct-below : (k : ℕ) (es : List (ℕ × X)) → T (below_all nat_cmp k es) → AllByRecursion (λ y. nat_eq k y ≡ false) (keys_of es)
  distinct-below k [] h = tt
  distinct-below k (e ∷ es) h = (sym (unsigned_tied k e.0) ∙ lt_not_eq (nat_cmp k e.0) (left_true (is_lt (nat_cmp k e.0)) _ h), distinct-below k es (right_true (is_lt (nat_cmp k e.0)) _ h))

  distinct_keys : (es : List (ℕ × X)) → T (is_sorted nat_cmp es) → IsDistinct nat_eq (keys_of es)
  unfolding IsDistinct
  distinct_keys [] h = tt
  distinct_keys (e ∷ es) h = IsDistinct-cons nat_eq e.0 (keys_of es) (distinct-below e.0 es (left_true (below_all nat_cmp e.0 es) _ h)) (distinct_keys es (right_true (below_all nat_cmp e.0 es) _ h))

  -- ---- entries that pass a test of what stands beside the keys
  is_some-option_filter : (q : X → Bool) (o : Option X) → is_some (option_filter q o) ≡ option_map_or q o false
  is_some-option_filter q None = refl
  is_some-option_filter q (Some x) = elim (q x) as (λ b. is_some (cond b (Some x) None) ≡ b) [ true ↦ refl | false ↦ refl ]

  has-passing : (q : X → Bool) (es : List (ℕ × X)) (i : ℕ) → IsDistinct nat_eq (keys_of es) → has i (keys_of (filter (λ e. q e.1) es)) ≡ option_map_or q (lookup (nat_eq i) es) false
  has-passing q es i distinct =
      sym (is_some-lookup (nat_eq i) (filter (λ e. q e.1) es))
      ∙ ap is_some (lookup-filter-values nat_eq_equiv q i es distinct)
      ∙ is_some-option_filter q (lookup (nat_eq i) es)

-- which items the answer has
pub has-answer : (m : LabelledBoxes) (at : Extent) (a b i : ℕ) → has i (overlapping_apart m at a b) ≡ option_map_or (overlaps_apart at a b) (map.get m i) false
has-answer m at a b i =
    has-passing (overlaps_apart at a b) (map.entries m) i (distinct_keys (map.entries m) (entries_sorted m))
    ∙ ap (λ o. option_map_or (overlaps_apart at a b) o false) (sym (get-entries m i ∙ find_is_lookup (map.entries m) i))

module _ (q : Question) (es : List (ℕ × LabelledBox)) (once : IsDistinct nat_eq (keys_of es)) where
  abbrev pub made : LabelledBoxes
  made = map.from_entries es

  abbrev pub asked : List ℕ
  asked = overlapping_apart made q.at q.a q.b

  -- the question finds in the entries what it finds in the map
  found_in_map : (i : ℕ) → has i (items_found q es) ≡ has i asked
  found_in_map i =
      has-passing (finds q) es i once
      ∙ ap (λ o. option_map_or (finds q) o false) (sym (get_made es i))
      ∙ sym (has-answer made q.at q.a q.b i)

  -- a strictly rising list of what it finds is the answer
  pub answer_is : (xs : List ℕ) → IsStrictlySortedBy nat_cmp xs → ((i : ℕ) → has i xs ≡ has i (items_found q es)) → xs ≡ asked
  answer_is xs rises same =
      same_rising xs (filter (λ e. finds q e.1) (map.entries made)) rises (sorted-filter (λ e. finds q e.1) (map.entries made) (entries_sorted made)) (λ i. same i ∙ found_in_map i)

  -- it finds as many
  pub as_many : length (items_found q es) ≡ length asked
  as_many = length-from_same_keys nat_eq_equiv (items_found q es) asked
      (IsDistinct-keys_filter nat_eq (λ e. finds q e.1) es once)
      (IsDistinct-keys_filter nat_eq (λ e. finds q e.1) (map.entries made) (distinct_keys (map.entries made) (entries_sorted made)))
      found_in_map

and_all : (b : Bool) → (b && true) ≡ b
and_all true = refl
and_all false = refl

-- an empty list is as short as one may ask
pub none_is_few : {A : Type 0} (xs : List A) (most : ℕ) → xs ≡ [] → length xs ≤ most
none_is_few xs most none = subst (λ ys. length ys ≤ most) (sym none) (omega arith)

-- what a walk adds to an empty list is what the question finds
pub added_alone : (ask : Extent → Question) (at its : Extent) (ns read : List Node) (old xs : List ℕ) → xs ≡ old ++ items_found (ask its) (entries (reverse read)) → old ≡ [] → its ≡ at → read ≡ ns
    → xs ≡ items_found (ask at) (entries (reverse ns))
added_alone ask at its ns read old xs added none same nodes =
    added
    ∙ ap (λ ys. ys ++ items_found (ask its) (entries (reverse read))) none
    ∙ ap (λ e. items_found (ask e) (entries (reverse read))) same
    ∙ ap (λ ms. items_found (ask at) (entries (reverse ms))) nodes

-- each box is apart from 0
pub apart_from_none : (m : LabelledBoxes) (at : Extent) → overlapping_apart m at 0 0 ≡ overlapping m at
apart_from_none m at = λ i. keys_of (filter (λ e. and_all (overlaps e.1.at at) i) (map.entries m))

-- ---- the boxes that are found, beside their places
-- what is found where no label is named is near
pub near_is : (at : Extent) (es found : List (ℕ × LabelledBox)) → IsDistinct nat_eq (keys_of es) → found ≡ entries_found (record { at = at; a = 0; b = 0 }) es → AreNear (map.from_entries es) at found
near_is at es found once is = subst (AreNear (map.from_entries es) at) (sym (is ∙ (λ i. filter (λ e. and_all (overlaps e.1.at at) i) es))) (record {
  each = λ i. lookup-filter-values nat_eq_equiv (λ (e : LabelledBox). overlaps e.at at) i es once ∙ ap (option_filter (λ (e : LabelledBox). overlaps e.at at)) (sym (get_made es i));
  once = IsDistinct-keys_filter nat_eq (λ e. overlaps e.1.at at) es once;
})

-- they are as many as the answer has
pub near_many : (at : Extent) (es old : List (ℕ × LabelledBox)) (most : ℕ) → IsDistinct nat_eq (keys_of es) → old ≡ []
    → most < length (old ++ entries_found (record { at = at; a = 0; b = 0 }) es) → most < length (overlapping (map.from_entries es) at)
near_many at es old most once none less =
    let q : Question = record { at = at; a = 0; b = 0 } in
    let same = ap (λ xs. length (xs ++ entries_found q es)) none ∙ sym (length-keys_of (entries_found q es)) ∙ as_many q es once ∙ ap length (apart_from_none (map.from_entries es) at) in
    subst (λ n. most < n) same less

-- those of them that are apart from two labels and have a common point with a box that has fewer points, put in order, are the answer for that box
pub picked_is : (m : LabelledBoxes) (asked at : Extent) (a b : ℕ) (found : List (ℕ × LabelledBox)) (xs : List ℕ) → AreNear m asked found → ((e : LabelledBox) → overlaps e.at at ≡ true → overlaps e.at asked ≡ true)
    → IsStrictlySortedBy nat_cmp xs → ((i : ℕ) → has i xs ≡ has i (keys_of (filter (λ e. overlaps_apart at a b e.1) found))) → xs ≡ overlapping_apart m at a b
picked_is m asked at a b found xs near up rises same =
    same_rising xs (filter (λ e. overlaps_apart at a b e.1) (map.entries m)) rises (sorted-filter (λ e. overlaps_apart at a b e.1) (map.entries m) (entries_sorted m))
    (λ i. same i ∙ has-passing (overlaps_apart at a b) found i near.once
    ∙ ap (λ o. option_map_or (overlaps_apart at a b) o false) (near.each i)
    ∙ passes (map.get m i)
    ∙ sym (has-answer m at a b i))
  where
    none_else : (e : LabelledBox) → overlaps e.at asked ≡ false → overlaps_apart at a b e ≡ false
    none_else e off = ⊎_elim
        (λ yes. absurd (false≢true (sym off ∙ up e (and_parts (overlaps e.at at) (is_apart e.labels a b) yes).0)))
        (λ no'. no')
        (cases_Bool (overlaps_apart at a b e))

    by_test : (e : LabelledBox) (c : Bool) → overlaps e.at asked ≡ c → option_map_or (overlaps_apart at a b) (cond c (Some e) None) false ≡ overlaps_apart at a b e
    by_test e true h = refl
    by_test e false h = sym (none_else e h)

    passes : (o : Option LabelledBox) → option_map_or (overlaps_apart at a b) (option_filter (λ e. overlaps e.at asked) o) false ≡ option_map_or (overlaps_apart at a b) o false
    passes None = refl
    passes (Some e) = by_test e (overlaps e.at asked) refl
