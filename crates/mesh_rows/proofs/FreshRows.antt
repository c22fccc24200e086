-- A row of which nothing is wrong may be made a face.
use Rattle.std.specs.Option.{option_map_or}
use Rattle.std.specs.FinMap as finite
use Rattle.std.proofs.Common.{◌≡◌, ◌≢◌, ℕ, ◌==◌, ◌&&◌, ◌||◌, Bool, true, false, None, is_some, refl, sym, ap, ◌∙◌, arith}
use Rattle.std.proofs.lemmas.Bool.Decides.{nat_tests}
use Rattle.mesh_base.specs.declared.ids.Corners.{Corners}
use Rattle.mesh_base.specs.Mesh.{Mesh, AreLive, AreDifferent, HasCorners, equal_up_to_rotation}
use Rattle.mesh_base.specs.Sides.{faces_running, follows}
use Rattle.mesh_base.specs.Changes.{IsFresh}
use Rattle.mesh_shape.specs.Shape.{repeats}
use Rattle.mesh_shape.specs.Numbered.{numbered}
use Rattle.mesh_shape.proofs.Lists.{none_of, none_mapped, not_tested, first_false}
use Rattle.half_mesh.specs.Across.{below}
use Rattle.half_mesh.proofs.AcrossLaws.{running-place}
use Rattle.mesh_rows.specs.declared.rows.FaceRow.{FaceRow}
use Rattle.mesh_rows.specs.Faults.{no_corner, has_corners_at, equal_face, corners_fault, face_fault}
use Rattle.mesh_rows.proofs.Searching.{none_passes}
use Rattle.mesh_rows.proofs.Parts.{passed}

all_live : (m : Mesh) (c : Corners) → no_corner m c ≡ None → AreLive m c
all_live m c h = tests (is_some (finite.get m.points c.first)) (is_some (finite.get m.points c.second)) (is_some (finite.get m.points c.third)) h
  where
    tests : (p q r : Bool) → first_false p q r ≡ None → (p ≡ true) × (q ≡ true) × (r ≡ true)
    tests true true true h = (refl, refl, refl)
    tests true true false h = cc
    tests true false r h = cc
    tests false q r h = cc

all_different : (c : Corners) → repeats c ≡ false → AreDifferent c
all_different c h = let apart = three c.first c.second c.third h in record { first_second = apart.0; second_third = apart.1; third_first = apart.2 }
  where
    three : (a b c : ℕ) → ((a == b) || (b == c) || (c == a)) ≡ false → (a ≢ b) × (b ≢ c) × (c ≢ a)
    three a b c h = (λ e. grind (arith, nat_tests), λ e. grind (arith, nat_tests), λ e. grind (arith, nat_tests))

-- a face that does not run along a side of others is none of them
other_face : (a b c d e w : ℕ) → ((a == d && b == e) || (b == d && c == e) || (c == d && a == e)) ≡ false → ((a == d && b == e && c == w) || (b == d && c == e && a == w) || (c == d && a == e && b == w)) ≡ false
other_face a b c d e w h = grind (arith, nat_tests)

none_equal : (m : Mesh) (c : Corners) → equal_face m c ≡ None → (f : ℕ) (d : Corners) → HasCorners m f d → equal_up_to_rotation d c ≡ false
none_equal m c none f d has = by_test (follows d c.first c.second) refl
  where
    by_test : (b : Bool) → follows d c.first c.second ≡ b → equal_up_to_rotation d c ≡ false
    by_test false e = other_face d.first d.second d.third c.first c.second c.third e
    by_test true e =
        sym (ap (λ o. option_map_or (λ x. equal_up_to_rotation x c) o false) has)
        ∙ none_passes (has_corners_at m c) (faces_running m c.first c.second) (below f (faces_running m c.first c.second)) f none (running-place m c.first c.second f d has e)

-- the next ids are of no account
pub fresh_row : (next place : ℕ) (m : Mesh) (row : FaceRow) (a b : ℕ) → face_fault next place m row ≡ None → IsFresh (numbered m a b) row.corners
fresh_row next place m row a b h =
    let corners : corners_fault m row ≡ None = (passed _ _ _ h).1 in
    let two = none_of _ _ corners in
    let three = none_of _ _ two.1 in
    record {
      live = all_live m row.corners (none_mapped _ _ two.0);
      different = all_different row.corners (not_tested _ _ three.0);
      new = λ f d has. none_equal m row.corners (none_mapped _ _ three.1) f d has;
    }
