-- From a vertex a walk comes along the corners behind it to all corners of its faces.
use Rattle.std.proofs.Common.{◌≡◌, ◌⊎◌, ℕ, ◌+◌, ◌<◌, Bool, true, false, cond, ◌||◌, ◌==◌, List, [], ◌∷◌, ◌++◌, map, length, get_or, take, ⊎_elim, inl, inr, refl, sym, ap, subst, ◌∙◌}
use Rattle.std.proofs.lemmas.Bool.{false≢true, eqb-true}
use Rattle.std.proofs.lemmas.List.{take_more}
use Rattle.mesh_base.specs.declared.ids.Corners.{Corners}
use Rattle.mesh_base.specs.Mesh.{Mesh, IsSound, HasCorners, AreDifferent}
use Rattle.mesh_base.specs.Sides.{has_corner, faces_at}
use Rattle.mesh_base.proofs.Tests.{or_either}
use Rattle.edit_base.specs.Classes.{is_one_of}
use Rattle.edit_base.specs.Edges.{corners_at}
use Rattle.edit_base.proofs.Chains.{Has, either_first, either_second, equal_itself}
use Rattle.mesh_measure.specs.Ahead.{ahead}
use Rattle.mesh_measure.specs.Round.{behind}
use Rattle.mesh_measure.specs.Walk.{around}
use Rattle.mesh_measure.proofs.Around.{listed_passes, face_listed, around_from, around_has}
use Rattle.mesh_measure.proofs.Rounding.{behind_in}

-- ---- mapped lists
pub one_more_corner : (f : ℕ → ℕ) (xs : List ℕ) (i x : ℕ) → i < length xs → x ≡ get_or xs i x → map f (take (i + 1) xs) ≡ map f (take i xs) ++ f x ∷ []
one_more_corner f xs i x low is = ap (map f) (take_more xs i x low) ∙ at_end (take i xs) (get_or xs i x) ∙ ap (λ y. map f (take i xs) ++ f y ∷ []) (sym is)
  where
    at_end : (ys : List ℕ) (y : ℕ) → map f (ys ++ y ∷ []) ≡ map f ys ++ f y ∷ []
    at_end [] y = refl
    at_end (z ∷ zs) y = ap (λ l. f z ∷ l) (at_end zs y)

from_one : (f : ℕ → ℕ) (xs : List ℕ) (w : ℕ) → Has (map f xs) w → (x : ℕ) × Has xs x × (f x ≡ w)
from_one f [] w h = absurd (false≢true h)
from_one f (x ∷ xs) w h = ⊎_elim
    (λ here. (x, either_first (x == x) (is_one_of xs x) (equal_itself x), eqb-true (f x) w here))
    (λ later. let found = from_one f xs w later in (found.0, either_second (x == found.0) (is_one_of xs found.0) found.1, found.2))
    (or_either (f x == w) (is_one_of (map f xs) w) h)

of_one : (f : ℕ → ℕ) (xs : List ℕ) (x : ℕ) → Has xs x → Has (map f xs) (f x)
of_one f [] x has = absurd (false≢true has)
of_one f (y ∷ ys) x has = ⊎_elim
    (λ here. subst (λ z. Has (f y ∷ map f ys) (f z)) (eqb-true y x here) (either_first (f y == f y) (is_one_of (map f ys) (f y)) (equal_itself (f y))))
    (λ later. either_second (f y == f x) (is_one_of (map f ys) (f x)) (of_one f ys x later))
    (or_either (y == x) (is_one_of ys x) has)

-- ---- corners
not_so : (b : Bool) → (b ≡ true → ⊥) → b ≡ false
not_so true h = absurd (h refl)
not_so false h = refl

behind_first : (c : Corners) → behind c c.first ≡ c.second
behind_first c = ap (λ b. cond b c.second (cond (c.second == c.first) c.third c.first)) (equal_itself c.first)

behind_second : (c : Corners) → AreDifferent c → behind c c.second ≡ c.third
behind_second c d =
    ap (λ b. cond b c.second (cond (c.second == c.second) c.third c.first)) (not_so (c.first == c.second) (λ e. d.first_second (eqb-true c.first c.second e)))
    ∙ ap (λ b. cond b c.third c.first) (equal_itself c.second)

behind_third : (c : Corners) → AreDifferent c → behind c c.third ≡ c.first
behind_third c d =
    ap (λ b. cond b c.second (cond (c.second == c.third) c.third c.first)) (not_so (c.first == c.third) (λ e. d.third_first (sym (eqb-true c.first c.third e))))
    ∙ ap (λ b. cond b c.third c.first) (not_so (c.second == c.third) (λ e. d.second_third (eqb-true c.second c.third e)))

which : (c : Corners) (u : ℕ) → has_corner c u ≡ true → ((c.first ≡ u) ⊎ (c.second ≡ u)) ⊎ (c.third ≡ u)
which c u h = ⊎_elim
    (λ two. inl (⊎_elim (λ one. inl (eqb-true c.first u one)) (λ one. inr (eqb-true c.second u one)) (or_either (c.first == u) (c.second == u) two)))
    (λ one. inr (eqb-true c.third u one))
    (or_either ((c.first == u) || (c.second == u)) (c.third == u) h)

-- a walk from u comes to each corner of a face: it stands there, or comes there by one step, or by two
comes : (c : Corners) (u w x : ℕ) → behind c u ≡ x → (u ≡ w) ⊎ ((x ≡ w) ⊎ (behind c x ≡ w)) → (u ≡ w) ⊎ ((behind c u ≡ w) ⊎ (behind c (behind c u) ≡ w))
comes c u w x is h = ⊎_elim (λ a. inl a) (λ b. inr (⊎_elim (λ e. inl (is ∙ e)) (λ e. inr (ap (behind c) is ∙ e)) b)) h

pub two_steps : (c : Corners) (u w : ℕ) → AreDifferent c → has_corner c u ≡ true → has_corner c w ≡ true → (u ≡ w) ⊎ ((behind c u ≡ w) ⊎ (behind c (behind c u) ≡ w))
two_steps c u w d at_u at_w = ⊎_elim
    (λ two. ⊎_elim
    (λ one. subst (λ x. (x ≡ w) ⊎ ((behind c x ≡ w) ⊎ (behind c (behind c x) ≡ w))) one from_first)
    (λ one. subst (λ x. (x ≡ w) ⊎ ((behind c x ≡ w) ⊎ (behind c (behind c x) ≡ w))) one from_second) two)
    (λ one. subst (λ x. (x ≡ w) ⊎ ((behind c x ≡ w) ⊎ (behind c (behind c x) ≡ w))) one from_third)
    (which c u at_u)
  where
    from_first : (c.first ≡ w) ⊎ ((behind c c.first ≡ w) ⊎ (behind c (behind c c.first) ≡ w))
    from_first = comes c c.first w c.second (behind_first c) (⊎_elim
        (λ two. ⊎_elim (λ e. inl e) (λ e. inr (inl e)) two)
        (λ e. inr (inr (behind_second c d ∙ e)))
        (which c w at_w))

    from_second : (c.second ≡ w) ⊎ ((behind c c.second ≡ w) ⊎ (behind c (behind c c.second) ≡ w))
    from_second = comes c c.second w c.third (behind_second c d) (⊎_elim
        (λ two. ⊎_elim (λ e. inr (inr (behind_third c d ∙ e))) (λ e. inl e) two)
        (λ e. inr (inl e))
        (which c w at_w))

    from_third : (c.third ≡ w) ⊎ ((behind c c.third ≡ w) ⊎ (behind c (behind c c.third) ≡ w))
    from_third = comes c c.third w c.first (behind_third c d) (⊎_elim
        (λ two. ⊎_elim (λ e. inr (inl e)) (λ e. inr (inr (behind_first c ∙ e))) two)
        (λ e. inl e)
        (which c w at_w))

-- ---- a step
-- it leads to a corner of a face
pub ahead_around : (m : Mesh) (u w : ℕ) → Has (ahead m u) w → Has (around m u) w
ahead_around m u w h =
    let f = from_one (λ f. behind (corners_at m f) u) (faces_at m u) w h in
    let is = listed_passes m (λ c. has_corner c u) f.0 f.1 in
    subst (λ x. Has (around m u) x) f.2 (around_has m f.0 u (behind (corners_at m f.0) u) is.0 is.1 (behind_in (corners_at m f.0) u))

ahead_has : (m : Mesh) (f u : ℕ) → HasCorners m f (corners_at m f) → has_corner (corners_at m f) u ≡ true → Has (ahead m u) (behind (corners_at m f) u)
ahead_has m f u there at_u = of_one (λ f. behind (corners_at m f) u) (faces_at m u) f (face_listed m (λ c. has_corner c u) f (corners_at m f) there at_u)

-- what has with each vertex those ahead of it has the corners of its faces
pub around_by_steps : (m : Mesh) → IsSound m → (P : ℕ → Type 0) → ((u w : ℕ) → P u → Has (ahead m u) w → P w) → (u w : ℕ) → P u → Has (around m u) w → P w
around_by_steps m sound P on u w p has =
    let f = around_from m u w has in
    let c = corners_at m f.0 in
    let x = behind c u in
    let next : P x = on u x p (ahead_has m f.0 u f.1 f.2) in
    let last : P (behind c x) = on x (behind c x) next (ahead_has m f.0 x f.1 (behind_in c u)) in
    ⊎_elim (λ e. subst P e p) (λ b. ⊎_elim (λ e. subst P e next) (λ e. subst P e last) b)
    (two_steps c u w (sound.is_mesh.different_corners f.0 c f.1) f.2 f.3)
