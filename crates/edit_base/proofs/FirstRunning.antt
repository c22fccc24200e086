-- The first face that runs one way, as the calls of a mesh find it.
use Rattle.std.proofs.Common.{◌≡◌, ℕ, List, [], ◌∷◌, Option, Some, None, slice_get, slice_index, ap, subst}
use Rattle.std.proofs.lemmas.Option.{slice_get_within}
use Rattle.std.specs.Option.{option_map, unwrap_or}
use Rattle.std.specs.FinMap as finite
use Rattle.mesh_base.specs.declared.ids.Corners.{Corners}
use Rattle.mesh_base.specs.Mesh.{Mesh}
use Rattle.mesh_base.specs.Sides.{faces_running}
use Rattle.mesh_base.specs.Changes.{corners_of, corner_list}
use Rattle.edit_base.specs.Edges.{corners_at, face_running}
use Rattle.edit_base.proofs.Beside.{face_there}

first_of : (xs : List ℕ) (x : ℕ) → slice_get xs 0 ≡ Some x → slice_index xs 0 ≡ x
first_of [] x h = absurd cc
first_of (y ∷ ys) x h = cc

-- the face that is found is the one that runs so
pub found_running : (m : Mesh) (u v f : ℕ) → slice_get (faces_running m u v) 0 ≡ Some f → face_running m u v ≡ f
found_running m u v f h = first_of (faces_running m u v) f h

-- and its corners are those that are found
pub found_corners : (m : Mesh) (f : ℕ) (ids : List ℕ) → option_map corner_list (finite.get m.faces f) ≡ Some ids → corners_at m f ≡ corners_of ids
found_corners m f ids h = by_answer (finite.get m.faces f) h
  where
    by_answer : (o : Option Corners) → option_map corner_list o ≡ Some ids → unwrap_or o (record { first = 0; second = 0; third = 0 }) ≡ corners_of ids
    by_answer (Some c) e = let same : corner_list c ≡ ids = cc in ap corners_of same
    by_answer None e = absurd cc

-- a face that is found has corners
pub found_is_face : (m : Mesh) (u v f : ℕ) → slice_get (faces_running m u v) 0 ≡ Some f → option_map corner_list (finite.get m.faces f) ≡ None → ⊥
found_is_face m u v f h none =
    let there = face_there m u v (slice_get_within (faces_running m u v) 0 f h) in
    let got : finite.get m.faces f ≡ Some there.0 = subst (λ g. finite.get m.faces g ≡ Some there.0) (found_running m u v f h) there.2 in
    clash (finite.get m.faces f) there.0 got none
  where
    clash : (o : Option Corners) (c : Corners) → o ≡ Some c → option_map corner_list o ≡ None → ⊥
    clash (Some d) c e n = cc
    clash None c e n = cc
