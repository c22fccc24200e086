-- When a face may be made.
use Rattle.std.proofs.Common.{◌≡◌, ℕ, ◌==◌, ◌&&◌, ◌||◌, Bool, true, false, refl, arith}
use Rattle.std.proofs.lemmas.Bool.Decides.{nat_tests}
use Rattle.std.proofs.lemmas.Option.{slice_get_within}
use Rattle.mesh_base.specs.declared.ids.Corners.{Corners}
use Rattle.mesh_base.specs.Mesh.{Mesh, AreLive, AreDifferent, HasCorners}
use Rattle.mesh_base.specs.Sides.{faces_running, runs, follows}
use Rattle.mesh_base.specs.Changes.{IsFresh}
use Rattle.half_mesh.specs.Across.{below}
use Rattle.half_mesh.proofs.AcrossLaws.{running-place}

-- a face that does not run along a side of others is none of them
other_face : (a b c d e w : ℕ) → ((a == d && b == e) || (b == d && c == e) || (c == d && a == e)) ≡ false → ((a == d && b == e && c == w) || (b == d && c == e && a == w) || (c == d && a == e && b == w)) ≡ false
other_face a b c d e w h = grind (arith, nat_tests)

no_face_runs : (m : Mesh) (u v f : ℕ) (d : Corners) → runs m u v ≡ 0 → HasCorners m f d → follows d u v ≡ false
no_face_runs m u v f d none has = by_test (follows d u v) refl
  where
    by_test : (b : Bool) → follows d u v ≡ b → b ≡ false
    by_test false e = refl
    by_test true e = absurd (let at = slice_get_within (faces_running m u v) (below f (faces_running m u v)) f (running-place m u v f d has e) in omega (arith, none))

-- where no face runs along the first side, a face may be made of three different live vertices
pub fresh_where_none_runs : (m : Mesh) (c : Corners) → AreLive m c → AreDifferent c → runs m c.first c.second ≡ 0 → IsFresh m c
fresh_where_none_runs m c live different none = record {
  live = live;
  different = different;
  new = λ f d has. other_face d.first d.second d.third c.first c.second c.third (no_face_runs m c.first c.second f d none has);
}
