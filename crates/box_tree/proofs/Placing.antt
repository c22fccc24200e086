-- The items that are put in, as far as the code has come.
use Rattle.std.proofs.Common.{◌≡◌, ◌∙◌, ℕ, ◌+◌, ◌<◌, List, [], ◌∷◌, ◌++◌, length, get_or, take, sym, ap, add-one, append_assoc, Option, Some, None}
use Rattle.std.specs.Prelude.{Result, OnOk, Ok, Err, slice_get, option_map}
use Rattle.std.specs.List.{filter_map, cons_option}
use Rattle.std.proofs.lemmas.List.Elements.{filter_map-append}
use Rattle.std.proofs.Math.Seq.{take-suc}
use Rattle.box_tree.specs.declared.labelled_box.LabelledBox.{LabelledBox}
use Rattle.box_tree.specs.Nodes.{entry_at}

pub on_ok : {A E : Type 0} (r : Result A E) {P Q : Type 0} → (P → Q) → OnOk r P → OnOk r Q
on_ok (Ok v) f h = f h
on_ok (Err e) f h = h

module _ (boxes : List LabelledBox) (order : List ℕ) (k i : ℕ) (one : k ≡ i + 1) (inside : i < length order) where
  placed_more : (o : Option LabelledBox) → slice_get boxes (get_or order i 0) ≡ o → filter_map (entry_at boxes) (take k order) ≡ filter_map (entry_at boxes) (take i order) ++ cons_option (option_map (λ e. (get_or order i 0, e)) o) []
  placed_more o is =
      ap (λ (j : ℕ). filter_map (entry_at boxes) (take j order)) (one ∙ add-one i)
      ∙ ap (filter_map (entry_at boxes)) (take-suc order i 0 inside)
      ∙ filter_map-append (entry_at boxes) (take i order) (get_or order i 0 ∷ [])
      ∙ ap (λ (p : Option LabelledBox). filter_map (entry_at boxes) (take i order) ++ cons_option (option_map (λ e. (get_or order i 0, e)) p) []) is

  pub put_some : (e : LabelledBox) (rest : List (ℕ × LabelledBox)) → slice_get boxes (get_or order i 0) ≡ Some e
      → filter_map (entry_at boxes) (take i order) ++ (get_or order i 0, e) ∷ rest ≡ filter_map (entry_at boxes) (take k order) ++ rest
  put_some e rest is = sym (ap (λ xs. xs ++ rest) (placed_more (Some e) is) ∙ append_assoc (filter_map (entry_at boxes) (take i order)) ((get_or order i 0, e) ∷ []) rest)

  pub put_none : (rest : List (ℕ × LabelledBox)) → slice_get boxes (get_or order i 0) ≡ None
      → filter_map (entry_at boxes) (take i order) ++ rest ≡ filter_map (entry_at boxes) (take k order) ++ rest
  put_none rest is = sym (ap (λ xs. xs ++ rest) (placed_more None is) ∙ append_assoc (filter_map (entry_at boxes) (take i order)) [] rest)

-- the items of the back are put in before those of the front
pub placed_both : (boxes : List LabelledBox) (order front back : List ℕ) (old mid new : List (ℕ × LabelledBox)) → order ≡ front ++ back
    → mid ≡ filter_map (entry_at boxes) back ++ old → new ≡ filter_map (entry_at boxes) front ++ mid → new ≡ filter_map (entry_at boxes) order ++ old
placed_both boxes order front back old mid new o m n =
    n ∙ ap (λ xs. filter_map (entry_at boxes) front ++ xs) m
    ∙ sym (append_assoc (filter_map (entry_at boxes) front) (filter_map (entry_at boxes) back) old)
    ∙ ap (λ xs. xs ++ old) (sym (filter_map-append (entry_at boxes) front back) ∙ ap (filter_map (entry_at boxes)) (sym o))
