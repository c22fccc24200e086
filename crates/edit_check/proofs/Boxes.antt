-- What is in boxes that are apart does as required.
use Rattle.std.proofs.Common.{◌≡◌, ℕ, zero, suc, ◌<◌, ◌≤◌, ◌+◌, Bool, true, false, cond, ◌&&◌, ◌||◌, not, ℤ, ◌<ℤ◌, ◌≤ℤ◌, List, [], ◌∷◌, ◌++◌, length, get_or, drop, ⊎_elim, inl, inr, refl, sym, ap, ◌∙◌, append_assoc, append-nil, arith}
use Rattle.std.proofs.lemmas.Int.{ints}
use Rattle.std.proofs.lemmas.List.{map-append}
use Rattle.std.specs.List.{Any, find}
use Rattle.std.specs.Option.{option_map}
use Rattle.grid_base.specs.declared.Extent.{Extent}
use Rattle.grid_base.specs.declared.Positions.{Positions}
use Rattle.grid_base.specs.Extents.{overlaps}
use Rattle.grid_base.specs.Separation.{IsBelow, IsWeaklyBelow, KeepsApart, TakesApart, AreSeparated, Opens, directions, double, middle}
use Rattle.grid_base.specs.SeparationTests.{passes}
use Rattle.grid_base.specs.Triples.{Triple}
use Rattle.grid_base.proofs.Reflected.{of_passes, of_opens}
use Rattle.grid_decided.specs.Decided.{meets_exactly, meets_exactly-is_exact}
use Rattle.edit_base.specs.declared.Touch.{Touch}
use Rattle.edit_base.specs.declared.Touch.TheVariants.{Never, Start, End}
use Rattle.edit_base.specs.Scaffold.{joins_contacts, meets_contact_rule}
use Rattle.pair_paths.specs.declared.moving_parts.MovingEdge.{MovingEdge}
use Rattle.pair_paths.specs.declared.moving_parts.MovingFace.{MovingFace}
use Rattle.pair_paths.specs.Bounds.{HoldsEdge, HoldsFace}
use Rattle.pair_paths.specs.Pairing.{have_a_vertex_in_common, name_with, pair_with, starts, ends}
use Rattle.pair_paths.proofs.Apart.{separated, starts_held, ends_held}
use Rattle.pair_paths.proofs.Walks.{rest_at, ended}
use Rattle.pair_scan.proofs.Lists.{find-map, option_map-option_map}
use Rattle.mesh_base.specs.Sides.{has_corner}
use Rattle.edit_check.specs.declared.boxed.BoxedFace.{BoxedFace}
use Rattle.edit_check.specs.Failing.{fails, first_failing_among, is_side_of_some}
use Rattle.edit_check.specs.Boxed.{faces_in, first_failing_boxed, is_side_of_boxed}

-- ---- what is separated opens
weak : (a b : ℤ) → a <ℤ b → a ≤ℤ b
weak a b h = omega (arith, ints)

weakly : (n : Triple) (f : Positions) → IsBelow n f → IsWeaklyBelow n f
weakly n f h = record { ac = weak _ _ h.ac; ad = weak _ _ h.ad; ae = weak _ _ h.ae; bc = weak _ _ h.bc; bd = weak _ _ h.bd; be = weak _ _ h.be }

takes : (s t : Positions) (n : Triple) → KeepsApart s t n → TakesApart s t n
takes s t n h = ⊎_elim (λ two. inl (weakly n s two.0, two.1)) (λ two. inr (weakly _ s two.0, two.1)) h

any_takes : (s t : Positions) → Any (KeepsApart s t) (directions s t) → Any (TakesApart s t) (directions s t)
any_takes s t h = (h.0, h.1, h.2, h.3, takes s t h.1 h.4)

opens_of_separated : (depth : ℕ) (s t : Positions) → AreSeparated depth s t → Opens depth s t
opens_of_separated zero s t h = any_takes s t h
opens_of_separated (suc depth) s t h = ⊎_elim (λ k. inl (any_takes s t k)) (λ two. inr (opens_of_separated depth (double s) (middle s t) two.0, two.1)) h

-- ---- boxes that are apart
module _ (depth : ℕ) (e : MovingEdge) (f : MovingFace) (edge face : Extent) (E : HoldsEdge e edge) (F : HoldsFace f face) (off : overlaps face edge ≡ false) where
  forth : AreSeparated depth (starts e f) (ends e f)
  forth = separated depth edge face (starts e f) (ends e f) (starts_held e f edge face E F) (ends_held e f edge face E F) off

  back : AreSeparated depth (ends e f) (starts e f)
  back = separated depth edge face (ends e f) (starts e f) (ends_held e f edge face E F) (starts_held e f edge face E F) off

  does_pass : passes meets_exactly depth (starts e f) (ends e f) ≡ true
  does_pass = of_passes meets_exactly meets_exactly-is_exact depth (starts e f) (ends e f) (inl forth)

  meets_rule : (touch : Touch) → meets_contact_rule meets_exactly touch depth (starts e f) (ends e f) ≡ true
  meets_rule Never = does_pass
  meets_rule Start = of_opens depth (starts e f) (ends e f) (opens_of_separated depth (starts e f) (ends e f) forth)
  meets_rule End = of_opens depth (ends e f) (starts e f) (opens_of_separated depth (ends e f) (starts e f) back)

  pub does_apart : (touch : Touch) (together : List ℕ) → fails touch together depth e f ≡ false
  does_apart touch together = by_test (joins_contacts together (pair_with e f)) (have_a_vertex_in_common e f)
    where
      by_test : (joins share : Bool) → (not share && not (cond joins (meets_contact_rule meets_exactly touch depth (starts e f) (ends e f)) (passes meets_exactly depth (starts e f) (ends e f)))) ≡ false
      by_test joins true = refl
      by_test true false = ap not (meets_rule touch)
      by_test false false = ap not does_pass

-- ---- searches
pub first_boxed : (touch : Touch) (together : List ℕ) (depth : ℕ) (e : MovingEdge) (faces : List BoxedFace) → first_failing_boxed touch together depth e faces ≡ first_failing_among touch together depth e (faces_in faces)
first_boxed touch together depth e faces =
    sym (
    ap (option_map (name_with e)) (find-map (λ f. fails touch together depth e f) (λ f. f.face) faces)
    ∙ option_map-option_map (name_with e) (λ f. f.face) (find (λ f. fails touch together depth e f.face) faces)
    )

pub side_boxed : (a b : ℕ) (faces : List BoxedFace) → is_side_of_boxed a b faces ≡ is_side_of_some a b (faces_in faces)
side_boxed a b [] = refl
side_boxed a b (f ∷ faces) = ap (λ t. (has_corner f.face.corners a && has_corner f.face.corners b) || t) (side_boxed a b faces)

-- ---- the loop that makes the boxes
pub boxed_more : (faces : List MovingFace) (i : ℕ) (d : MovingFace) (boxed more : List BoxedFace) (one : BoxedFace) → i < length faces → d ≡ get_or faces i d → one.face ≡ d → more ≡ boxed ++ one ∷ []
    → faces_in boxed ++ drop i faces ≡ faces → faces_in more ++ drop (i + 1) faces ≡ faces
boxed_more faces i d boxed more one inside item is grown before =
    ap (λ bs. faces_in bs ++ drop (i + 1) faces) grown
    ∙ ap (λ fs. fs ++ drop (i + 1) faces) (map-append (λ f. f.face) boxed (one ∷ []))
    ∙ append_assoc (faces_in boxed) (one.face ∷ []) (drop (i + 1) faces)
    ∙ ap (λ g. faces_in boxed ++ g ∷ drop (i + 1) faces) (is ∙ item)
    ∙ ap (λ fs. faces_in boxed ++ fs) (sym (rest_at faces i d inside))
    ∙ before

pub boxed_all : (faces : List MovingFace) (i : ℕ) (boxed : List BoxedFace) → length faces ≤ i → faces_in boxed ++ drop i faces ≡ faces → faces_in boxed ≡ faces
boxed_all faces i boxed past before = sym (append-nil (faces_in boxed)) ∙ ap (λ fs. faces_in boxed ++ fs) (sym (ended faces i past)) ∙ before
