-- The first pair of an edge that is not as required, among all faces or among those that are touched.
use Rattle.std.proofs.Common.{◌≡◌, ℕ, zero, suc, ◌+◌, ◌<◌, Bool, true, false, cond, ◌&&◌, ◌||◌, ◌==◌, not, nat_le, List, [], ◌∷◌, Option, Some, None, is_some, ◌⊎◌, ⊎_elim, inl, inr, refl, sym, ap, subst, ◌∙◌, arith}
use Rattle.std.specs.List.{filter, find, list_any, AllByRecursion}
use Rattle.std.specs.Option.{option_map}
use Rattle.std.specs.FinMap as finite
use Rattle.std.proofs.lemmas.Bool.{false≢true, eqb-true}
use Rattle.std.proofs.lemmas.Bool.Decides.{nat_tests}
use Rattle.std.proofs.lemmas.List.Elements.{All-from_recursion}
use Rattle.grid_decided.specs.Decided.{meets_exactly, meets_exactly-is_exact}
use Rattle.mesh_base.specs.declared.ids.Corners.{Corners}
use Rattle.mesh_base.specs.Mesh.{Mesh, HasCorners}
use Rattle.mesh_base.specs.Sides.{follows, has_corner, runs, IsEdge}
use Rattle.mesh_base.specs.Pairs.{Pair, pairs_of, five_ids}
use Rattle.mesh_base.proofs.Listed.{running_face, at_key, all_map, or_either}
use Rattle.mesh_base.proofs.ListedPairs.{all_mapped, all_weaker}
use Rattle.edit_base.specs.declared.Move.{Move}
use Rattle.edit_base.specs.declared.Touch.{Touch}
use Rattle.edit_base.specs.Scaffold.{Scaffold, move_of, motion_by, is_as_required, joins_contacts}
use Rattle.pair_paths.specs.declared.MovingEdge.{MovingEdge}
use Rattle.pair_paths.specs.declared.MovingFace.{MovingFace}
use Rattle.pair_paths.specs.Moving.{moving_edge, moving_face, moving_faces}
use Rattle.pair_paths.specs.Pairing.{name_with}
use Rattle.pair_paths.proofs.Faces.{found_entries}
use Rattle.edit_check.specs.Untouched.{IsOldEdge, IsUntouched, IsClearWhereUntouched}
use Rattle.edit_check.specs.Touched.{is_moved, is_touched}
use Rattle.edit_check.specs.Failing.{fails, first_failing_among, is_side_of_some}
use Rattle.edit_check.specs.Checking.{scaffold_by, first_of}
use Rattle.pair_scan.proofs.Lists.{find-map, option_map-option_map}
use Rattle.pair_scan.proofs.Lists.{find-filter as find-kept}
use Rattle.edit_check.proofs.Still.{find-filter}
use Rattle.edit_check.proofs.Untouched.{untouched_is_as_required}

-- ---- tests
pub none : {X : Type 0} (o : Option X) → is_some o ≡ false → o ≡ None
none (Some x) e = absurd cc
none None e = refl

pub neither : (a b : Bool) → (a || b) ≡ false → (a ≡ false) × (b ≡ false)
neither true b h = cc
neither false b h = (refl, h)

-- what a search among those that are kept does not find is none of them
pub none_kept : {X : Type 0} (keep test : X → Bool) (xs : List X) → list_any test (filter keep xs) ≡ false → AllByRecursion (λ x. keep x ≡ true → test x ≡ false) xs
none_kept keep test [] h = tt
none_kept {X} keep test (x ∷ xs) h = by_test (none_kept keep test xs) (keep x) refl h
  where
    by_test : (list_any test (filter keep xs) ≡ false → AllByRecursion (λ y. keep y ≡ true → test y ≡ false) xs) → (b : Bool) → keep x ≡ b →
        list_any test (cond b (x ∷ filter keep xs) (filter keep xs)) ≡ false → (keep x ≡ true → test x ≡ false) × AllByRecursion (λ y. keep y ≡ true → test y ≡ false) xs
    by_test rest true e h = let two = neither (test x) (list_any test (filter keep xs)) h in (λ _. two.0, rest two.1)
    by_test rest false e h = (λ t. absurd (false≢true (sym e ∙ t)), rest h)

-- the two vertices of a step are corners
pub step_corners : (c : Corners) (u v : ℕ) → follows c u v ≡ true → (has_corner c u ≡ true) × (has_corner c v ≡ true)
step_corners c u v h = (grind (arith, nat_tests), grind (arith, nat_tests))

-- ---- a face that is not touched
pub record IsOldFace (moves : List Move) (together : List ℕ) (fresh_from : ℕ) (f : MovingFace) : Type 0 where
  pub old : f.face < fresh_from
  pub first : move_of moves f.corners.first ≡ None
  pub second : move_of moves f.corners.second ≡ None
  pub third : move_of moves f.corners.third ≡ None
  pub apart : list_any (λ v. has_corner f.corners v) together ≡ false

below : (n f : ℕ) → nat_le n f ≡ false → f < n
below n f h = grind (arith, nat_tests)

pub old_face : (moves : List Move) (together : List ℕ) (fresh_from : ℕ) (f : MovingFace) → is_touched moves together fresh_from f ≡ false → IsOldFace moves together fresh_from f
old_face moves together fresh_from f h =
    let five = neither (nat_le fresh_from f.face || is_moved moves f.corners.first || is_moved moves f.corners.second || is_moved moves f.corners.third) (list_any (λ v. has_corner f.corners v) together) h in
    let last = neither (nat_le fresh_from f.face || is_moved moves f.corners.first || is_moved moves f.corners.second) (is_moved moves f.corners.third) five.0 in
    let two = neither (nat_le fresh_from f.face || is_moved moves f.corners.first) (is_moved moves f.corners.second) last.0 in
    let one = neither (nat_le fresh_from f.face) (is_moved moves f.corners.first) two.0 in
    record { old = below fresh_from f.face one.0; first = none (move_of moves f.corners.first) one.1; second = none (move_of moves f.corners.second) two.1; third = none (move_of moves f.corners.third) last.1; apart = five.1 }

pub corner_rests : (moves : List Move) (together : List ℕ) (fresh_from : ℕ) (f : MovingFace) (v : ℕ) → IsOldFace moves together fresh_from f → has_corner f.corners v ≡ true → move_of moves v ≡ None
corner_rests moves together fresh_from f v old h = ⊎_elim
    (λ two. ⊎_elim (λ e. at f.corners.first e old.first) (λ e. at f.corners.second e old.second) (or_either (f.corners.first == v) (f.corners.second == v) two))
    (λ e. at f.corners.third e old.third)
    (or_either ((f.corners.first == v) || (f.corners.second == v)) (f.corners.third == v) h)
  where
    at : (u : ℕ) → (u == v) ≡ true → move_of moves u ≡ None → move_of moves v ≡ None
    at u e rests = subst (λ w. move_of moves w ≡ None) (eqb-true u v e) rests

-- ---- an edge that is no side of a touched face
pub record IsOldSide (m : Mesh) (moves : List Move) (fresh_from a b : ℕ) : Type 0 where
  pub old : IsOldEdge m fresh_from a b
  pub first : move_of moves a ≡ None
  pub second : move_of moves b ≡ None

either_way : (k l : ℕ) → 0 < k + l → (0 < k) ⊎ (0 < l)
either_way zero l h = inr (omega arith)
either_way (suc k) l h = inl (omega arith)

-- the faces that are touched
abbrev pub touched : Mesh → List Move → List ℕ → ℕ → List MovingFace
touched m moves together fresh_from = filter (is_touched moves together fresh_from) (moving_faces m (motion_by m moves))

module _ (m : Mesh) (moves : List Move) (together : List ℕ) (fresh_from a b : ℕ) (alone : is_side_of_some a b (touched m moves together fresh_from) ≡ false) where
  off : AllByRecursion (λ f. is_touched moves together fresh_from (moving_face (motion_by m moves) f) ≡ true → (has_corner f.1 a && has_corner f.1 b) ≡ false) (finite.entries m.faces)
  off = all_map (λ f. is_touched moves together fresh_from f ≡ true → (has_corner f.corners a && has_corner f.corners b) ≡ false) (moving_face (motion_by m moves)) (finite.entries m.faces)
      (none_kept (is_touched moves together fresh_from) (λ f. has_corner f.corners a && has_corner f.corners b) (moving_faces m (motion_by m moves)) alone)

  both_true : (x y : Bool) → x ≡ true → y ≡ true → (x && y) ≡ true
  both_true x y e f = cc

  -- a face with both corners is not touched
  pub rests : (f : ℕ) (c : Corners) → HasCorners m f c → has_corner c a ≡ true → has_corner c b ≡ true → IsOldFace moves together fresh_from (moving_face (motion_by m moves) (f, c))
  rests f c there ca cb = old_face moves together fresh_from (moving_face (motion_by m moves) (f, c)) (by_test (is_touched moves together fresh_from (moving_face (motion_by m moves) (f, c))) refl)
    where
      by_test : (t : Bool) → is_touched moves together fresh_from (moving_face (motion_by m moves) (f, c)) ≡ t → t ≡ false
      by_test true e = absurd (false≢true (sym (at_key (λ g. is_touched moves together fresh_from (moving_face (motion_by m moves) g) ≡ true → (has_corner g.1 a && has_corner g.1 b) ≡ false) m.faces f c off there e) ∙ both_true _ _ ca cb))
      by_test false e = refl

  side : (f : ℕ) (c : Corners) → HasCorners m f c → (follows c a b ≡ true) ⊎ (follows c b a ≡ true) → has_corner c a ≡ true → has_corner c b ≡ true → IsOldSide m moves fresh_from a b
  side f c there way ca cb =
      let face = rests f c there ca cb in
      record {
        old = record { face = f; corners = c; is_old = face.old; is_face = there; side = way };
        first = corner_rests moves together fresh_from (moving_face (motion_by m moves) (f, c)) a face ca;
        second = corner_rests moves together fresh_from (moving_face (motion_by m moves) (f, c)) b face cb;
      }

  pub old_side : IsEdge m a b → IsOldSide m moves fresh_from a b
  old_side edge = ⊎_elim
      (λ some. let f = running_face m a b some in let at = step_corners (f.0).1 a b f.1 in side (f.0).0 (f.0).1 f.2 (inl f.1) at.0 at.1)
      (λ some. let f = running_face m b a some in let at = step_corners (f.0).1 b a f.1 in side (f.0).0 (f.0).1 f.2 (inr f.1) at.1 at.0)
      (either_way (runs m a b) (runs m b a) edge)

-- ---- among the faces
module _ (m : Mesh) (moves : List Move) (touch : Touch) (together : List ℕ) (depth a b : ℕ) where
  abbrev pub edge : MovingEdge
  edge = moving_edge (motion_by m moves) a b

  abbrev s : Scaffold
  s = scaffold_by m moves touch together

  abbrev pair : ℕ × Corners → Pair
  pair f = record { name = record { a = a; b = b; face = f.0 }; corners = f.1 }

  abbrev apart : ℕ × Corners → Bool
  apart f = not (has_corner f.1 a || has_corner f.1 b)

  abbrev bad : Pair → Bool
  bad p = not (is_as_required meets_exactly s depth p)

  -- among all faces: the first pair of the edge
  pub among_all : first_failing_among touch together depth edge (moving_faces m (motion_by m moves)) ≡ first_of s depth (pairs_of m (a, b))
  among_all =
      let es = finite.entries m.faces in
      let test : MovingFace → Bool = λ f. fails touch together depth edge f in
      let made : ℕ × Corners → MovingFace = moving_face (motion_by m moves) in
      ap (option_map (name_with edge)) (find-map test made es)
      ∙ option_map-option_map (name_with edge) made (find (λ f. apart f && bad (pair f)) es)
      ∙ sym (
      ap (option_map (λ p. p.name)) (find-map bad pair (filter apart es) ∙ ap (option_map pair) (find-kept (λ f. bad (pair f)) apart es))
      ∙ option_map-option_map (λ p. p.name) pair (find (λ f. apart f && bad (pair f)) es)
      )

  module _ (fresh_from : ℕ) (clear : IsClearWhereUntouched m moves fresh_from) (ordered : a < b) (is_edge : IsEdge m a b)
      (alone : is_side_of_some a b (touched m moves together fresh_from) ≡ false) where
    old : IsOldSide m moves fresh_from a b
    old = old_side m moves together fresh_from a b alone is_edge

    untouched : (f : ℕ × Corners) → HasCorners m f.0 f.1 → IsOldFace moves together fresh_from (moving_face (motion_by m moves) f) → has_corner f.1 a ≡ false → has_corner f.1 b ≡ false
        → IsUntouched m moves fresh_from (pair f)
    untouched f there face not_a not_b = record {
      is_pair = record { ordered = ordered; edge = is_edge; face = there; not_first = not_a; not_second = not_b };
      old_edge = old.old;
      old_face = face.old;
      still = All-from_recursion (λ v. move_of moves v ≡ None) (five_ids (pair f)) (old.first, (old.second, (face.first, (face.second, (face.third, tt)))));
    }

    -- none of those that may touch is a corner
    apart_two : (f : ℕ × Corners) → list_any (λ v. has_corner f.1 v) together ≡ false → joins_contacts together (pair f) ≡ false
    apart_two f h = ap (λ t. list_any (λ v. (a == v) || (b == v)) together && t) h ∙ no_and (list_any (λ v. (a == v) || (b == v)) together)
      where
        no_and : (t : Bool) → (t && false) ≡ false
        no_and true = refl
        no_and false = refl

    -- a face that is not touched does what is required
    does : (f : ℕ × Corners) → HasCorners m f.0 f.1 → is_touched moves together fresh_from (moving_face (motion_by m moves) f) ≡ false → fails touch together depth edge (moving_face (motion_by m moves) f) ≡ false
    does f there h = by_tests (has_corner f.1 a) (has_corner f.1 b) refl refl
      where
        face : IsOldFace moves together fresh_from (moving_face (motion_by m moves) f)
        face = old_face moves together fresh_from (moving_face (motion_by m moves) f) h

        by_tests : (x y : Bool) → has_corner f.1 a ≡ x → has_corner f.1 b ≡ y → (not (x || y) && bad (pair f)) ≡ false
        by_tests true y e g = refl
        by_tests false true e g = refl
        by_tests false false e g = ap not (untouched_is_as_required meets_exactly meets_exactly-is_exact s fresh_from depth clear (pair f) (untouched f there face e g) (apart_two f face.apart))

    -- among the touched faces alone: the same
    pub among_touched : first_failing_among touch together depth edge (touched m moves together fresh_from) ≡ first_of s depth (pairs_of m (a, b))
    among_touched =
        let w = motion_by m moves in
        ap (option_map (name_with edge)) (find-filter (is_touched moves together fresh_from) (λ f. fails touch together depth edge f) (moving_faces m w)
        (all_mapped (λ f. is_touched moves together fresh_from f ≡ false → fails touch together depth edge f ≡ false) (moving_face w) (finite.entries m.faces)
        (all_weaker (λ f. HasCorners m f.0 f.1) (λ f. is_touched moves together fresh_from (moving_face w f) ≡ false → fails touch together depth edge (moving_face w f) ≡ false) (finite.entries m.faces) does (found_entries m.faces))))
        ∙ among_all
