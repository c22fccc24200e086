-- The entries of a tree that are made of a list of boxes, in an order that has each place once.
use Rattle.std.proofs.Common.{◌≡◌, ◌∙◌, ⊎_elim, ℕ, Bool, true, false, cond, ◌||◌, nat_eq, List, [], ◌∷◌, Option, Some, None, refl, sym, ap, subst}
use Rattle.std.specs.Prelude.{slice_get, option_map}
use Rattle.std.specs.List.{filter_map, cons_option, AllByRecursion, IsDistinct}
use Rattle.std.specs.Map.{keys_of, lookup}
use Rattle.std.specs.Ordering.{nat_cmp}
use Rattle.std.specs.FinMap as finite
use Rattle.std.proofs.lemmas.Bool.{eqb-true}
use Rattle.std.proofs.lemmas.Option.{slice_get_cases}
use Rattle.cell_grid.specs.Filed.{has}
use Rattle.cell_grid.proofs.Listed.{get_made}
use Rattle.box_tree.specs.declared.labelled_box.LabelledBox.{LabelledBox}
use Rattle.box_tree.specs.Nodes.{entry_at}
use Rattle.box_tree.specs.Order.{HasEachPlace}

-- ---- no item stands twice
module _ (boxes : List LabelledBox) where
  others_placed : (k : ℕ) (ks : List ℕ) → AllByRecursion (λ j. nat_eq k j ≡ false) ks → AllByRecursion (λ j. nat_eq k j ≡ false) (keys_of (filter_map (entry_at boxes) ks))
  others_placed k [] h = tt
  others_placed k (j ∷ js) h = by_box (others_placed k js h.1) (slice_get boxes j)
    where
      by_box : AllByRecursion (λ i. nat_eq k i ≡ false) (keys_of (filter_map (entry_at boxes) js)) → (o : Option LabelledBox)
          → AllByRecursion (λ i. nat_eq k i ≡ false) (keys_of (cons_option (option_map (λ e. (j, e)) o) (filter_map (entry_at boxes) js)))
      by_box rest None = rest
      by_box rest (Some e) = (h.0, rest)

  once_placed : (order : List ℕ) → IsDistinct nat_eq order → IsDistinct nat_eq (keys_of (filter_map (entry_at boxes) order))
  unfolding IsDistinct
  once_placed [] h = tt
  once_placed (k ∷ ks) h = by_box (once_placed ks h.1) (slice_get boxes k)
    where
      by_box : IsDistinct nat_eq (keys_of (filter_map (entry_at boxes) ks)) → (o : Option LabelledBox)
          → IsDistinct nat_eq (keys_of (cons_option (option_map (λ e. (k, e)) o) (filter_map (entry_at boxes) ks)))
      by_box rest None = rest
      by_box rest (Some e) = (others_placed k ks h.0, rest)

pub are_once : (boxes : List LabelledBox) (order : List ℕ) (es : List (ℕ × LabelledBox)) → HasEachPlace boxes order → es ≡ filter_map (entry_at boxes) order → IsDistinct nat_eq (keys_of es)
are_once boxes order es each is = subst (λ xs. IsDistinct nat_eq (keys_of xs)) (sym is) (once_placed boxes order each.once)

-- ---- what the first entry of a place has
module _ (boxes : List LabelledBox) (i : ℕ) where
  here_or_later : (k : ℕ) (es : List (ℕ × LabelledBox)) (o : Option LabelledBox) (same rest : Bool) → (same ≡ true → o ≡ slice_get boxes i) → lookup (nat_eq i) es ≡ cond rest (slice_get boxes i) None → nat_eq i k ≡ same
      → lookup (nat_eq i) (cons_option (option_map (λ e. (k, e)) o) es) ≡ cond (same || rest) (slice_get boxes i) None
  here_or_later k es None true rest h later e = later ∙ elim rest as (λ (b : Bool). cond b (slice_get boxes i) None ≡ slice_get boxes i) [ true ↦ refl | false ↦ h refl ]
  here_or_later k es None false rest h later e = later
  here_or_later k es (Some x) true rest h later e = ap (λ (b : Bool). cond b (Some x) (lookup (nat_eq i) es)) e ∙ h refl
  here_or_later k es (Some x) false rest h later e = ap (λ (b : Bool). cond b (Some x) (lookup (nat_eq i) es)) e ∙ later

  pub lookup_placed : (order : List ℕ) → lookup (nat_eq i) (filter_map (entry_at boxes) order) ≡ cond (has i order) (slice_get boxes i) None
  lookup_placed [] = refl
  lookup_placed (k ∷ ks) = here_or_later k (filter_map (entry_at boxes) ks) (slice_get boxes k) (nat_eq i k) (has i ks) (λ e. ap (slice_get boxes) (sym (eqb-true i k e))) (lookup_placed ks) refl

-- the map has each box at its place, and nothing else
pub get_placed : (boxes : List LabelledBox) (order : List ℕ) (es : List (ℕ × LabelledBox)) → HasEachPlace boxes order → es ≡ filter_map (entry_at boxes) order → (i : ℕ) → finite.get (finite.from_entries {R = nat_cmp} es) i ≡ slice_get boxes i
get_placed boxes order es each is i =
    get_made es i
    ∙ ap (lookup (nat_eq i)) is
    ∙ lookup_placed boxes i order
    ∙ ⊎_elim
    (λ there. ap (λ (b : Bool). cond b (slice_get boxes i) None) (each.each i there.1))
    (λ past. sym (by_none (has i order) (slice_get boxes i) past.1))
    (slice_get_cases boxes i).1
  where
    by_none : (b : Bool) (o : Option LabelledBox) → o ≡ None → o ≡ cond b o None
    by_none true o e = refl
    by_none false o e = e
