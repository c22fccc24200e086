-- An edge whose box is apart from one that has the touched faces does as required.
use Rattle.std.proofs.Common.{◌≡◌, Bool, true, false, cond, ◌&&◌, ◌||◌, ℤ, ◌≤ℤ◌, List, [], ◌∷◌, None, int_le, refl, sym, ap, subst, ◌∙◌, arith}
use Rattle.std.proofs.lemmas.Int.{ints}
use Rattle.std.proofs.lemmas.Bool.{false≢true}
use Rattle.std.proofs.lemmas.List.Elements.{recursion_from_All}
use Rattle.std.specs.List.{AllByRecursion}
use Rattle.std.specs.Option.{option_map}
use Rattle.grid_base.specs.declared.Extent.{Extent}
use Rattle.grid_base.specs.Extents.{IsIn, overlaps}
use Rattle.grid_base.specs.Triples.{Triple}
use Rattle.mesh_base.specs.Sides.{has_corner}
use Rattle.mesh_base.specs.Placements.{Motion}
use Rattle.pair_paths.specs.declared.moving_parts.MovingEdge.{MovingEdge}
use Rattle.pair_paths.specs.Bounds.{HoldsPath, HoldsEdge, HoldsFace}
use Rattle.pair_paths.specs.Paths.{path_along}
use Rattle.edit_check.specs.declared.boxed.BoxedFace.{BoxedFace}
use Rattle.edit_check.specs.declared.terms.Terms.{Terms}
use Rattle.edit_check.specs.Failing.{fails}
use Rattle.edit_check.specs.Boxed.{first_failing_boxed, is_side_of_boxed}
use Rattle.edit_check.specs.Neighbourhood.{EdgeGoes, FaceGoes, AreAlong}
use Rattle.edit_check.specs.Searching.{first_near}
use Rattle.edit_check.proofs.Beyond.{corner_held, none_found}
use Rattle.edit_check.proofs.Boxes.{does_apart}

-- ---- boxes with a common point
true_and : (a b : Bool) → a ≡ true → b ≡ true → (a && b) ≡ true
true_and true b e f = f
true_and false b e f = e

between : (low p high : ℤ) → low ≤ℤ p → p ≤ℤ high → int_le low high ≡ true
between low p high h i = grind (arith, ints)

pub common_point : (e f : Extent) (p : Triple) → IsIn e p → IsIn f p → overlaps e f ≡ true
common_point e f p i j =
    true_and _ _ (true_and _ _
    (true_and _ _ (between e.low.x p.x f.high.x i.x_low j.x_high) (between f.low.x p.x e.high.x j.x_low i.x_high))
    (true_and _ _ (between e.low.y p.y f.high.y i.y_low j.y_high) (between f.low.y p.y e.high.y j.y_low i.y_high)))
    (true_and _ _ (between e.low.z p.z f.high.z i.z_low j.z_high) (between f.low.z p.z e.high.z j.z_low i.z_high))

-- ---- an edge apart from the reach
module _ (w : Motion) (reach box : Extent) (e : MovingEdge) (goes : EdgeGoes w e) (held : HoldsEdge e box) (off : overlaps reach box ≡ false) where
  -- no face in the reach has its first end as a corner
  no_corner : (f : BoxedFace) → FaceGoes w f.face → HoldsFace f.face reach → has_corner f.face.corners e.a ≡ true → false ≡ true
  no_corner f along has corner =
      let path : HoldsPath (path_along w e.a) reach = corner_held w (f.face.face, f.face.corners) e.a reach (subst (λ g. HoldsFace g reach) along has) corner in
      let own : HoldsPath (path_along w e.a) box = subst (λ p. HoldsPath p box) (ap (λ k. k.first) goes) held.first in
      sym off ∙ common_point reach box (w.start e.a) path.start own.start

  no_side : (faces : List BoxedFace) → AllByRecursion (λ f. FaceGoes w f.face) faces → AllByRecursion (λ f. HoldsFace f.face reach) faces → is_side_of_boxed e.a e.b faces ≡ false
  no_side [] along has = refl
  no_side (f ∷ faces) along has = by_test (no_side faces along.1 has.1) (has_corner f.face.corners e.a) refl
    where
      by_test : is_side_of_boxed e.a e.b faces ≡ false → (t : Bool) → has_corner f.face.corners e.a ≡ t → ((t && has_corner f.face.corners e.b) || is_side_of_boxed e.a e.b faces) ≡ false
      by_test rest true is = absurd (false≢true (no_corner f along.0 has.0 is))
      by_test rest false is = rest

  none_fails : (t : Terms) (faces : List BoxedFace) → AllByRecursion (λ f. HoldsFace f.face reach) faces → AllByRecursion (λ f. fails t.touch t.together.now t.depth e f.face ≡ false) faces
  none_fails t [] has = tt
  none_fails t (f ∷ faces) has = (does_apart t.depth e f.face box reach held has.0 off t.touch t.together.now, none_fails t faces has.1)

-- no pair of it is found
pub alone_beyond : (t : Terms) (reach : Extent) (faces touched : List BoxedFace) (w : Motion) (along : AreAlong w reach faces touched) (e : MovingEdge) (box : Extent)
    → EdgeGoes w e → HoldsEdge e box → overlaps reach box ≡ false → first_near t faces touched e ≡ None
alone_beyond t reach faces touched w along e box goes held off =
    let has = recursion_from_All (λ f. HoldsFace f.face reach) touched along.reached in
    let alone = no_side w reach box e goes held off touched (recursion_from_All (λ f. FaceGoes w f.face) touched along.touched_go) has in
    ap (λ s. first_failing_boxed t.touch t.together.now t.depth e (cond s faces touched)) alone
    ∙ ap (option_map (λ f. record { a = e.a; b = e.b; face = f.face.face }))
    (none_found (λ f. fails t.touch t.together.now t.depth e f.face) touched (none_fails w reach box e goes held off t touched has))
