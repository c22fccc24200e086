-- Faces with their corners, of which the faces alone are a list.
use Rattle.std.proofs.Common.{◌≡◌, ℕ, Bool, true, false, cond, not, List, [], ◌∷◌, map, refl, sym, ap, ◌∙◌}
use Rattle.std.specs.List.{filter}
use Rattle.mesh_base.specs.declared.ids.Corners.{Corners}
use Rattle.mesh_base.specs.Mesh.{Mesh}
use Rattle.edit_base.specs.Edges.{corners_at}
use Rattle.edit_pinch.specs.Pinch.{share_second}
use Rattle.edit_pinch.specs.Parting.{share_other, cornered, face_ids}

module _ (m : Mesh) where
  pub with_its_corners : (f : ℕ) (c : Corners) → c ≡ corners_at m f → (f, c) ≡ cornered m f
  with_its_corners f c h = let pair : Corners → ℕ × Corners = λ k. (f, k) in ap pair h

  ids_again : (xs : List ℕ) → face_ids (map (cornered m) xs) ≡ xs
  ids_again [] = refl
  ids_again (x ∷ xs) = ap (λ l. x ∷ l) (ids_again xs)

  pub ids_are : (xs : List ℕ) (es : List (ℕ × Corners)) → es ≡ map (cornered m) xs → face_ids es ≡ xs
  ids_are xs es is = ap face_ids is ∙ ids_again xs

  pub cornered_still : (xs : List ℕ) (es : List (ℕ × Corners)) → es ≡ map (cornered m) xs → es ≡ map (cornered m) (face_ids es)
  cornered_still xs es is = is ∙ sym (ap (map (cornered m)) (ids_are xs es is))

  filter_cornered : (p : ℕ × Corners → Bool) (xs : List ℕ) → filter p (map (cornered m) xs) ≡ map (cornered m) (filter (λ y. p (cornered m y)) xs)
  filter_cornered p [] = refl
  filter_cornered p (x ∷ xs) = by_test (filter_cornered p xs) (p (cornered m x))
    where
      by_test : filter p (map (cornered m) xs) ≡ map (cornered m) (filter (λ y. p (cornered m y)) xs) → (t : Bool)
          → cond t (cornered m x ∷ filter p (map (cornered m) xs)) (filter p (map (cornered m) xs)) ≡ map (cornered m) (cond t (x ∷ filter (λ y. p (cornered m y)) xs) (filter (λ y. p (cornered m y)) xs))
      by_test rest true = ap (λ l. cornered m x ∷ l) rest
      by_test rest false = rest

  -- ---- those of the faces that share a vertex with one, and the others
  module _ (v g : ℕ) (c : Corners) (corners : c ≡ corners_at m g) (left given : List (ℕ × Corners)) (same : given ≡ left) (known : left ≡ map (cornered m) (face_ids left)) where
    pub rest_is : (rest : List (ℕ × Corners)) → rest ≡ filter (λ e. not (share_other v c e.1)) given → rest ≡ map (cornered m) (filter (λ y. not (share_second m v g y)) (face_ids left))
    rest_is rest h =
        h ∙ (λ j. filter (λ e. not (share_other v (corners j) e.1)) (same j))
        ∙ ap (filter (λ e. not (share_other v (corners_at m g) e.1))) known
        ∙ filter_cornered (λ e. not (share_other v (corners_at m g) e.1)) (face_ids left)

    pub more_is : face_ids (filter (λ e. share_other v c e.1) given) ≡ filter (λ y. share_second m v g y) (face_ids left)
    more_is =
        ids_are (filter (λ y. share_second m v g y) (face_ids left)) (filter (λ e. share_other v c e.1) given)
        ((λ j. filter (λ e. share_other v (corners j) e.1) (same j))
        ∙ ap (filter (λ e. share_other v (corners_at m g) e.1)) known
        ∙ filter_cornered (λ e. share_other v (corners_at m g) e.1) (face_ids left))
