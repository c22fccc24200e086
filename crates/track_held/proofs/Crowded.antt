-- Where no crowded edge is found at a vertex, it has none.
use Rattle.std.proofs.Common.{◌≡◌, ◌⊎◌, ℕ, ◌<◌, ◌==◌, ◌||◌, Bool, true, false, cond, nat_lt, List, [], ◌∷◌, Option, Some, None, refl, ap, sym, ◌∙◌, subst, eqb-true, inl, inr, ⊎_elim, arith}
use Rattle.std.specs.List.{find, AllByRecursion}
use Rattle.std.specs.Option.{option_or, option_map_or}
use Rattle.std.specs.FinMap as finite
use Rattle.std.proofs.lemmas.Bool.Decides.{nat_tests}
use Rattle.mesh_base.specs.declared.ids.Corners.{Corners}
use Rattle.mesh_base.specs.Mesh.{Mesh, HasCorners}
use Rattle.mesh_base.specs.Changes.{corner_list}
use Rattle.mesh_base.specs.Sides.{runs, follows, has_corner, faces_at}
use Rattle.mesh_base.specs.Pairs.{is_crowded}
use Rattle.mesh_base.proofs.Listed.{all_map, all_filter, at_key, running_face, or_either}
use Rattle.track_held.specs.Folds.{crowded_corner, crowded_among, first_crowded, FindsCrowded}

-- no corner of a face has a crowded edge with the vertex
abbrev HasNone : Mesh → ℕ → ℕ → Type 0
HasNone m v f = crowded_corner m v f ≡ None

none_among : (m : Mesh) (v : ℕ) (fs : List ℕ) → crowded_among m v fs ≡ None → AllByRecursion (HasNone m v) fs
none_among m v [] e = tt
none_among m v (f ∷ fs) e = by_first (crowded_corner m v f) refl (none_among m v fs) e
  where
    by_first : (o : Option ℕ) → crowded_corner m v f ≡ o → (crowded_among m v fs ≡ None → AllByRecursion (HasNone m v) fs) → option_or o (crowded_among m v fs) ≡ None → HasNone m v f × AllByRecursion (HasNone m v) fs
    by_first None is rest e = (is, rest e)
    by_first (Some w) is rest e = absurd cc

none_of_three : (p : ℕ → Bool) (a b c : ℕ) → find p (a ∷ b ∷ c ∷ []) ≡ None → (p a ≡ false) × (p b ≡ false) × (p c ≡ false)
none_of_three p a b c e = by_tests (p a) (p b) (p c) e
  where
    by_tests : (x y z : Bool) → cond x (Some a) (cond y (Some b) (cond z (Some c) None)) ≡ None → (x ≡ false) × (y ≡ false) × (z ≡ false)
    by_tests true y z e = absurd cc
    by_tests false true z e = absurd cc
    by_tests false false true e = absurd cc
    by_tests false false false e = (refl, refl, refl)

-- the corners that follow one another
abbrev AreSide : Corners → ℕ → ℕ → Type 0
AreSide c u v = (has_corner c u ≡ true) × ((c.first ≡ v) ⊎ ((c.second ≡ v) ⊎ (c.third ≡ v)))

second_of : (c : Corners) (u v : ℕ) → follows c u v ≡ true → (has_corner c u ≡ true) × (has_corner c v ≡ true)
second_of c u v e = (grind (arith, nat_tests), grind (arith, nat_tests))

one_of : (c : Corners) (v : ℕ) → has_corner c v ≡ true → (c.first ≡ v) ⊎ ((c.second ≡ v) ⊎ (c.third ≡ v))
one_of c v e = ⊎_elim
    (λ two. ⊎_elim (λ h. inl (eqb-true c.first v h)) (λ h. inr (inl (eqb-true c.second v h))) (or_either (c.first == v) (c.second == v) two))
    (λ h. inr (inr (eqb-true c.third v h)))
    (or_either ((c.first == v) || (c.second == v)) (c.third == v) e)

module _ (m : Mesh) (v : ℕ) (none : first_crowded m v ≡ None) where
  -- of each face at the vertex
  of_face : (f : ℕ) (c : Corners) → HasCorners m f c → has_corner c v ≡ true → find (λ w. is_crowded m v w) (corner_list c) ≡ None
  of_face f c there at =
      let all = all_filter (λ (e : ℕ × Corners). HasNone m v e.0) (λ e. has_corner e.1 v) (finite.entries m.faces) (all_map (HasNone m v) (λ (e : ℕ × Corners). e.0) _ (none_among m v (faces_at m v) none)) in
      ap (λ o. option_map_or (λ d. find (λ w. is_crowded m v w) (corner_list d)) o None) (sym there)
      ∙ at_key (λ e. has_corner e.1 v ≡ true → HasNone m v e.0) m.faces f c all there at

  of_corner : (f : ℕ) (c : Corners) (w : ℕ) → HasCorners m f c → has_corner c v ≡ true → has_corner c w ≡ true → is_crowded m v w ≡ false
  of_corner f c w there at has =
      let three = none_of_three (λ w. is_crowded m v w) c.first c.second c.third (of_face f c there at) in
      let P : ℕ → Type 0 = λ x. is_crowded m v x ≡ false in
      ⊎_elim (λ e. subst P e three.0) (λ more. ⊎_elim (λ e. subst P e three.1) (λ e. subst P e three.2) more) (one_of c w has)

  no_runs : (w : ℕ) → (0 < runs m v w) ⊎ (0 < runs m w v) → is_crowded m v w ≡ false
  no_runs w some = ⊎_elim
      (λ some. let face = running_face m v w some in let two = second_of (face.0).1 v w face.1 in of_corner (face.0).0 (face.0).1 w face.2 two.0 two.1)
      (λ some. let face = running_face m w v some in let two = second_of (face.0).1 w v face.1 in of_corner (face.0).0 (face.0).1 w face.2 two.1 two.0)
      some

  pub none_crowded : (w : ℕ) → is_crowded m v w ≡ false
  none_crowded w = by_test (is_crowded m v w) refl
    where
      runs_some : is_crowded m v w ≡ true → (0 < runs m v w) ⊎ (0 < runs m w v)
      runs_some e = ⊎_elim (λ h. inl (grind (arith, nat_tests))) (λ h. inr (grind (arith, nat_tests))) (or_either (nat_lt 1 (runs m v w)) (nat_lt 1 (runs m w v)) e)

      by_test : (b : Bool) → is_crowded m v w ≡ b → is_crowded m v w ≡ false
      by_test false e = e
      by_test true e = no_runs w (runs_some e)

pub finds_crowded : (m : Mesh) (v : ℕ) (found : Option ℕ) → found ≡ first_crowded m v → FindsCrowded m v found
finds_crowded m v found is none w = none_crowded m v (sym is ∙ none) w
