-- After the third act only faces at the joined vertex can be equal up to rotation.
use Rattle.std.proofs.Common.{◌≡◌, ◌≢◌, ⊎_elim, ℕ, Bool, true, false, cond, ◌||◌, T, List, [], ◌∷◌, map, refl, sym, ap, ◌∙◌}
use Rattle.std.proofs.lemmas.Bool.{false≢true}
use Rattle.std.specs.List.{filter, list_any, AllByRecursion}
use Rattle.std.specs.Ordering.{nat_cmp}
use Rattle.std.specs.FinMap as finite
use Rattle.std.specs.FinMap.{entries_sorted}
use Rattle.std.specs.FinMap.Entries.{is_sorted, below_all}
use Rattle.mesh_base.specs.declared.ids.Corners.{Corners}
use Rattle.mesh_base.specs.Mesh.{Mesh, IsSound, HasCorners, equal_up_to_rotation}
use Rattle.mesh_base.specs.Sides.{has_corner}
use Rattle.mesh_base.proofs.ListedPairs.{all_weaker}
use Rattle.mesh_base.proofs.WalkSteps.{both_of}
use Rattle.edit_base.specs.Edges.{has_equal, doubles_a_face}
use Rattle.edit_collapse.specs.Collapse.{joined_faces}
use Rattle.edit_collapse.proofs.Joined.{each_there, single_left, all_two, all_above}
use Rattle.edit_collapse.specs.Tried.{left_at}
use Rattle.edit_collapse.proofs.Acts.{same_held}
use Rattle.edit_collapse.proofs.Three.{three_cut, two_from}

-- a face that does not hold a is equal to no other
abbrev IsAlone : ℕ → ℕ × Corners → ℕ × Corners → Type 0
IsAlone a x y = x.0 ≢ y.0 → has_corner x.1 a ≡ false → equal_up_to_rotation x.1 y.1 ≡ false

-- of the rest none is equal to a face that does not hold a
any_none : (a : ℕ) (x : ℕ × Corners) (es : List (ℕ × Corners)) → has_corner x.1 a ≡ false → AllByRecursion (λ (y : ℕ × Corners). (x.0 ≢ y.0) × IsAlone a x y) es → list_any (λ d. equal_up_to_rotation x.1 d) (map (λ e. e.1) es) ≡ false
any_none a x [] lacks h = refl
any_none a x (y ∷ es) lacks h = (λ i. (h.0).1 (h.0).0 lacks i || list_any (λ d. equal_up_to_rotation x.1 d) (map (λ e. e.1) es)) ∙ any_none a x es lacks h.1

-- and only those that hold a can be equal to one that does
any_at : (a : ℕ) (x : ℕ × Corners) (es : List (ℕ × Corners)) → has_corner x.1 a ≡ true → list_any (λ d. equal_up_to_rotation x.1 d) (map (λ e. e.1) es) ≡ list_any (λ d. equal_up_to_rotation x.1 d) (map (λ e. e.1) (filter (λ e. has_corner e.1 a) es))
any_at a x [] held = refl
any_at a x (y ∷ es) held = by_test (any_at a x es held) (has_corner y.1 a) refl (equal_up_to_rotation x.1 y.1) refl
  where
    by_test : list_any (λ d. equal_up_to_rotation x.1 d) (map (λ e. e.1) es) ≡ list_any (λ d. equal_up_to_rotation x.1 d) (map (λ e. e.1) (filter (λ e. has_corner e.1 a) es)) → (t : Bool) → has_corner y.1 a ≡ t → (u : Bool) → equal_up_to_rotation x.1 y.1 ≡ u →
        (u || list_any (λ d. equal_up_to_rotation x.1 d) (map (λ e. e.1) es)) ≡ list_any (λ d. equal_up_to_rotation x.1 d) (map (λ e. e.1) (cond t (y ∷ filter (λ e. has_corner e.1 a) es) (filter (λ e. has_corner e.1 a) es)))
    by_test same true t u e = (λ i. u || same i) ∙ ap (λ v. v || list_any (λ d. equal_up_to_rotation x.1 d) (map (λ e. e.1) (filter (λ e. has_corner e.1 a) es))) (sym e)
    by_test same false t true e = absurd (false≢true (sym t ∙ sym (same_held x.1 y.1 a e) ∙ held))
    by_test same false t false e = same

abbrev AreAlone : ℕ → Mesh → Type 0
AreAlone a n = (f g : ℕ) (c d : Corners) → HasCorners n f c → HasCorners n g d → f ≢ g → has_corner c a ≡ false → equal_up_to_rotation c d ≡ false

only_at_a : (a : ℕ) (n : Mesh) (es : List (ℕ × Corners)) → AreAlone a n → T (is_sorted nat_cmp es) → AllByRecursion (λ (e : ℕ × Corners). HasCorners n e.0 e.1) es →
    has_equal (map (λ e. e.1) es) ≡ has_equal (map (λ e. e.1) (filter (λ e. has_corner e.1 a) es))
only_at_a a n [] alone rising h = refl
only_at_a a n (e ∷ es) alone rising h = by_test (only_at_a a n es alone parts.1 h.1) (has_corner e.1 a) refl
  where
    parts : T (below_all nat_cmp e.0 es) × T (is_sorted nat_cmp es)
    parts = both_of (below_all nat_cmp e.0 es) (is_sorted nat_cmp es) rising

    by_test : has_equal (map (λ x. x.1) es) ≡ has_equal (map (λ x. x.1) (filter (λ x. has_corner x.1 a) es)) → (t : Bool) → has_corner e.1 a ≡ t →
        (list_any (λ d. equal_up_to_rotation e.1 d) (map (λ x. x.1) es) || has_equal (map (λ x. x.1) es)) ≡ has_equal (map (λ x. x.1) (cond t (e ∷ filter (λ x. has_corner x.1 a) es) (filter (λ x. has_corner x.1 a) es)))
    by_test same true t = λ i. any_at a e es t i || same i
    by_test same false t =
        (λ i. any_none a e es t
        (all_weaker (λ (y : ℕ × Corners). (y.0 ≢ e.0) × HasCorners n y.0 y.1) (λ (y : ℕ × Corners). (e.0 ≢ y.0) × IsAlone a e y) es
        (λ y k. (λ same. k.0 (sym same), λ apart lacks. alone e.0 y.0 e.1 y.1 h.0 k.1 apart lacks))
        (all_two (λ (y : ℕ × Corners). y.0 ≢ e.0) (λ (y : ℕ × Corners). HasCorners n y.0 y.1) es (all_above e.0 es parts.0) h.1)) i || has_equal (map (λ x. x.1) es))
        ∙ same

-- faces that do not hold a are old ones
alone_in_three : (m : Mesh) (a b : ℕ) → IsSound m → a ≢ b → AreAlone a (joined_faces m a b)
alone_in_three m a b sound apart f g c d there there' ids lacks = by_test (equal_up_to_rotation c d) refl
  where
    old : (k : ℕ) (x : Corners) → HasCorners (joined_faces m a b) k x → has_corner x a ≡ false → HasCorners m k x
    old k x there none = ⊎_elim (λ one. (single_left m a b sound apart k x one).0) (λ new. absurd (false≢true (sym none ∙ new.0))) (two_from m a b sound apart k x ((three_cut m a b).part k x there))

    by_test : (t : Bool) → equal_up_to_rotation c d ≡ t → equal_up_to_rotation c d ≡ false
    by_test true e = absurd (ids (sound.is_mesh.different_faces f g c d (old f c there lacks) (old g d there' (sym (same_held c d a e) ∙ lacks)) e))
    by_test false e = e

pub doubled_at : (m : Mesh) (a b : ℕ) → IsSound m → a ≢ b → has_equal (map (λ e. e.1) (left_at m a b)) ≡ doubles_a_face (joined_faces m a b)
doubled_at m a b sound apart =
    let three = joined_faces m a b in
    sym (only_at_a a three (finite.entries three.faces) (alone_in_three m a b sound apart) (entries_sorted three.faces) (each_there three))
