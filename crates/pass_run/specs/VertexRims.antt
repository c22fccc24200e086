-- The faces at a vertex by their rims, which are each face's two other corners, and when chains of rims lead to all of them.
use Rattle.std.specs.Prelude.{◌≡◌, ◌≢◌, ℕ, ◌<◌, ◌==◌, ◌||◌, Bool, false, IsTrue, List, length, slice_get, slice_index_or, Some}
use Rattle.mesh_base.specs.declared.ids.Corners.{Corners}
use Rattle.mesh_base.specs.Mesh.{Mesh}
use Rattle.mesh_base.specs.Sides.{has_corner}
use Rattle.edit_base.specs.Edges.{corners_at}

-- two corners other than the vertex
pub record IsRim (c : Corners) (v : ℕ) (rim : ℕ × ℕ) : Type 0 where
  pub first : rim.0 ≢ v
  pub second : rim.1 ≢ v
  pub first_there : IsTrue (has_corner c rim.0)
  pub second_there : IsTrue (has_corner c rim.1)

-- the rims of faces, one after another
pub record AreRims (m : Mesh) (v : ℕ) (faces : List ℕ) (rims : List (ℕ × ℕ)) : Type 0 where
  pub long : length rims ≡ length faces
  pub rim : (k : ℕ) (r : ℕ × ℕ) → slice_get rims k ≡ Some r →
      IsRim (corners_at m (slice_index_or faces k 0)) v r

-- whether two rims have a vertex in common
abbrev pub rims_meet : ℕ × ℕ → ℕ × ℕ → Bool
rims_meet r s = r.0 == s.0 || r.0 == s.1 || r.1 == s.0 || r.1 == s.1

-- there are rims at both places, and they meet
abbrev pub AreBeside : List (ℕ × ℕ) → ℕ → ℕ → Type 0
AreBeside rims j k =
    (r : ℕ × ℕ) × ((s : ℕ × ℕ) × ((slice_get rims j ≡ Some r) ×
    ((slice_get rims k ≡ Some s) × IsTrue (rims_meet r s))))

-- a chain of rims, of which each two that follow one another meet, leads from the first to that at a
-- place
pub data IsLinked (rims : List (ℕ × ℕ)) : ℕ → Type 0 where
  first : IsLinked rims 0
  further : {j k : ℕ} → IsLinked rims j → AreBeside rims j k → IsLinked rims k

-- of each that is marked
abbrev pub AreLinked : List (ℕ × ℕ) → List Bool → Type 0
AreLinked rims marks = (k : ℕ) → IsTrue (slice_index_or marks k false) → IsLinked rims k

-- there are rims, and each is linked
pub record AreAllLinked (rims : List (ℕ × ℕ)) : Type 0 where
  pub some : 0 < length rims
  pub each : (k : ℕ) → k < length rims → IsLinked rims k
