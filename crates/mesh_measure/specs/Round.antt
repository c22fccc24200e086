-- The faces round a vertex, and what links lead to.
use Rattle.std.specs.Prelude.{◌≡◌, ◌⊎◌, ℕ, nat_eq, ◌<◌, ◌==◌, true, List, length, Option, Some, None, if◌then◌else◌}
use Rattle.std.specs.HashMap.{HashMap, get}
use Rattle.mesh_base.specs.declared.ids.Corners.{Corners}
use Rattle.mesh_base.specs.Mesh.{Mesh}
use Rattle.mesh_base.specs.Sides.{runs}
use Rattle.edit_base.specs.Classes.{is_one_of}
use Rattle.edit_base.specs.Edges.{corners_at}
use Rattle.edit_pinch.specs.Pinch.{fans}

-- ---- corners
-- the corner behind v, in the corners of a face that has v
abbrev pub behind : Corners → ℕ → ℕ
behind c v = if c.first == v then c.second else (if c.second == v then c.third else c.first)

-- the corner before v
abbrev pub before : Corners → ℕ → ℕ
before c v = if c.first == v then c.third else (if c.second == v then c.first else c.second)

-- ---- links
-- to what a vertex is linked, if to something
abbrev pub link : {S : Type 0} → HashMap ℕ ℕ S → ℕ → Option ℕ
link links u = get nat_eq links u

-- a vertex that had no link has one, and the others have theirs
pub record AddsLink {S : Type 0} (from to : ℕ) (old new : HashMap ℕ ℕ S) : Type 0 where
  pub fresh : link old from ≡ None
  pub now : (u : ℕ) → link new u ≡ (if nat_eq from u then Some to else link old u)

-- In each of some faces the corner behind v is linked to the one before v. There are no other
-- links, and no two of the faces have one corner behind v.
pub record AreLinks {S : Type 0} (m : Mesh) (v : ℕ) (faces : List ℕ)
    (links : HashMap ℕ ℕ S) : Type 0 where
  pub each : (f : ℕ) → is_one_of faces f ≡ true →
      link links (behind (corners_at m f) v) ≡ Some (before (corners_at m f) v)
  pub only : (u w : ℕ) → link links u ≡ Some w →
      (f : ℕ) × (is_one_of faces f ≡ true) × (behind (corners_at m f) v ≡ u)
      × (before (corners_at m f) v ≡ w)
  pub apart : (f g : ℕ) → is_one_of faces f ≡ true → is_one_of faces g ≡ true →
      behind (corners_at m f) v ≡ behind (corners_at m g) v → f ≡ g

-- LeadOn at u w: links lead from u to w
pub data LeadOn (at : ℕ → Option ℕ) : ℕ → ℕ → Type 0 where
  here : {u : ℕ} → LeadOn at u u
  further : {u v w : ℕ} → LeadOn at u v → at v ≡ Some w → LeadOn at u w

-- each link stays, or stands where links lead from the first vertex
abbrev pub TakesReached : {S : Type 0} → ℕ → HashMap ℕ ℕ S → HashMap ℕ ℕ S → Type 0
TakesReached first old new =
    (u w : ℕ) → link old u ≡ Some w → (link new u ≡ Some w) ⊎ LeadOn (link old) first u

-- ---- a vertex
-- no two faces run from v to one vertex, and the faces at v are one fan, or none
pub record IsPlain (m : Mesh) (v : ℕ) : Type 0 where
  pub single : (u : ℕ) → runs m v u < 2
  pub one_fan : length (fans m v) < 2
