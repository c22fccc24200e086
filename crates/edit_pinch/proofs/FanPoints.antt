-- Where a fan's copy goes, by what is found of the fan.
use Rattle.std.proofs.Common.{◌≡◌, ℕ, ◌*◌, List, Option, Some, None, IsSome, length, refl, sym, ap, subst, ◌∙◌}
use Rattle.std.proofs.lemmas.Bool.{false≢true}
use Rattle.std.specs.FinMap as finite
use Rattle.grid_base.specs.declared.TheConstants.{BOX}
use Rattle.grid_base.specs.declared.Point.{Point}
use Rattle.grid_base.specs.Points.{position_of, point_at}
use Rattle.grid_base.specs.Triples.{Triple, IsWithin, plus}
use Rattle.grid_base.proofs.PointLaws.{point_at-position_of}
use Rattle.mesh_base.specs.declared.ids.Corners.{Corners}
use Rattle.mesh_base.specs.Mesh.{Mesh, IsSound, HasCorners}
use Rattle.mesh_base.specs.Placements.{rest_positions, point_of}
use Rattle.edit_base.specs.Edges.{corners_at}
use Rattle.edit_pinch.specs.Pinch.{divided, fan_shift, fan_point}
use Rattle.edit_base.proofs.Chains.{Has}
use Rattle.edit_pinch.proofs.FanBalance.{corners_there}
use Rattle.edit_pinch.proofs.FanPoint.{shift_within}
use Rattle.mesh_base.proofs.PointOf.{position_of-point_of}
use Rattle.edit_pinch.specs.Rims.{found_rim, ways, AreLiveFaces}
use Rattle.edit_pinch.proofs.RimLaws.{rim_ways, rim_length}

-- a live face has its corners
pub corners_of_live : (m : Mesh) (f : ℕ) → IsSome (finite.get m.faces f) → HasCorners m f (corners_at m f)
corners_of_live m f live = by_answer (finite.get m.faces f) refl live
  where
    by_answer : (o : Option Corners) → finite.get m.faces f ≡ o → IsSome o → HasCorners m f (corners_at m f)
    by_answer (Some c) e live = e ∙ ap Some (sym (corners_there m f c e))
    by_answer None e live = absurd (false≢true live)

module _ (m : Mesh) (v : ℕ) (fan : List ℕ) (sound : IsSound m) (live : AreLiveFaces m fan) (here : Point) (sum : Triple) (us : List ℕ) (given : List ℕ) (n : ℕ)
    (here_is : here ≡ point_of m v) (us_are : us ≡ found_rim m v fan) (same : given ≡ us) (sum_is : sum ≡ ways m v given) (n_is : n ≡ length us) where
  pub there : plus (position_of here) (divided sum (8 * n)) ≡ plus (rest_positions m v) (fan_shift m v fan)
  there =
      let at = ap position_of here_is ∙ position_of-point_of m v in
      let all = λ (f : ℕ) (has : Has fan f). corners_of_live m f (live f has) in
      let way = sum_is ∙ ap (ways m v) (same ∙ us_are) ∙ rim_ways m v fan sound all in
      let count = n_is ∙ ap length us_are ∙ rim_length m v fan sound all in
      λ i. plus (at i) (divided (way i) (8 * count i))

  pub stays_in_box : IsWithin BOX (plus (position_of here) (divided sum (8 * n)))
  stays_in_box = subst (IsWithin BOX) (sym there) (shift_within m v fan)

  pub is_fan_point : (p : Point) → position_of p ≡ plus (position_of here) (divided sum (8 * n)) → p ≡ fan_point m v fan
  is_fan_point p e = sym (point_at-position_of p) ∙ ap point_at (e ∙ there)
