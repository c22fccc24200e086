-- How the half-edges of a mesh and its faces are tied.
use Rattle.std.specs.Prelude.{◌≡◌, ◌≢◌, ℕ, ◌/◌, min, ◌==◌, cond, Bool, List, [], ◌∷◌, ◌++◌, Some, None, IsSome}
use Rattle.std.specs.Ordering.{nat_cmp}
use Rattle.std.specs.List.{list_any}
use Rattle.std.specs.FinMap as finite
use Rattle.mesh_base.specs.declared.ids.Corners.{Corners}
use Rattle.mesh_base.specs.declared.limits.Limits.{Limits}
use Rattle.mesh_base.specs.Mesh.{Mesh, AreDifferent}
use Rattle.mesh_base.specs.SideList.{neighbours_in}
use Rattle.half_mesh.specs.Vertices.{vertices_in, points_in, solid_in}
use Rattle.mesh_base.specs.Sides.{has_corner}
use Rattle.half_mesh.specs.Fans.{Spoke, Fans, Side, Sides, Woven, side_at, spokes_at, put_spoke, without}
use Rattle.half_mesh.specs.Mapped.{map_values}
use Rattle.id_table.specs.Stock.{Stock}
use Rattle.half_mesh.specs.Ground.{Ground}
use Rattle.half_mesh.specs.States.{Buried, Ledger}

-- the parts of the side at a key, 0 where there is none
abbrev pub origin_at : Sides → ℕ → ℕ
origin_at sides key = elim (side_at sides key) [ None ↦ 0 | Some side ↦ side.origin ]

-- where it runs to
abbrev pub to_at : Sides → ℕ → ℕ
to_at sides key = elim (side_at sides key) [ None ↦ 0 | Some side ↦ side.to ]

-- the key of the half-edge that follows in its face
abbrev pub next_at : Sides → ℕ → ℕ
next_at sides key = elim (side_at sides key) [ None ↦ 0 | Some side ↦ side.next ]

-- the corners of the face whose first side stands at the key
abbrev pub corners_at : Sides → ℕ → Corners
corners_at sides key = record {
  first = origin_at sides key;
  second = to_at sides key;
  third = to_at sides (next_at sides key);
}

-- for each live face, the key of its first side
abbrev pub Keys : Type 0
Keys = finite.FinMap nat_cmp ℕ

-- the corners of each face, by ids
abbrev pub FaceMap : Type 0
FaceMap = finite.FinMap nat_cmp Corners

-- the faces that the half-edges give, each by the key of its first side
abbrev pub faces_in : Sides → Keys → FaceMap
faces_in sides keys = map_values (corners_at sides) keys

-- the mesh that fans and keys stand for, under limits
abbrev pub woven_mesh : Woven → Keys → Limits → ℕ → ℕ → Mesh
woven_mesh woven keys limits next_vertex next_face = record {
  points = points_in (vertices_in woven.fans);
  faces = faces_in woven.sides keys;
  solid = solid_in (vertices_in woven.fans);
  next_vertex = next_vertex;
  next_face = next_face;
  limits = limits;
}

-- whether two vertices are neighbours in some of these faces
abbrev pub are_beside : Sides → Keys → List ℕ → ℕ → ℕ → Bool
are_beside sides keys faces v w =
    list_any (λ f. neighbours_in (finite.get (faces_in sides keys) f) v w) faces

-- no face has a corner twice
abbrev pub HaveDifferentCorners : Sides → Keys → Type 0
HaveDifferentCorners sides keys =
    (f key : ℕ) → finite.get keys f ≡ Some key → AreDifferent (corners_at sides key)

-- what is buried
abbrev pub buried_in : Ground → Stock ℕ → Buried
buried_in g keys = record {
  points = points_in g.buried;
  faces = faces_in g.woven.sides keys.buried;
  solid = solid_in g.buried;
}

-- how many additions find memory: a vertex takes a seat, and a face a place
-- among the keys and three half-edges
abbrev pub spare_in : Ground → Stock ℕ → ℕ
spare_in g keys = min (min g.seats keys.room) (g.woven.room / 3)

-- what the tables of a mesh stand for
abbrev pub ledger_in : Ground → Stock ℕ → Limits → ℕ → ℕ → Ledger
ledger_in g keys limits next_vertex next_face = record {
  state = record {
    mesh = woven_mesh g.woven keys.live limits next_vertex next_face;
    buried = buried_in g keys;
  };
  spare = spare_in g keys;
}

-- the three sides of the face f, of the corners c, stand in a ring from the key on
pub record IsRing (sides : Sides) (f : ℕ) (c : Corners) (key : ℕ) : Type 0 where
  pub second : ℕ
  pub third : ℕ
  pub at_first :
      side_at sides key ≡ Some (record { origin = c.first; to = c.second; face = f; next = second })
  pub at_second : side_at sides second
      ≡ Some (record { origin = c.second; to = c.third; face = f; next = third })
  pub at_third :
      side_at sides third ≡ Some (record { origin = c.third; to = c.first; face = f; next = key })

-- the corner that follows v
abbrev pub next_corner : Corners → ℕ → ℕ
next_corner c v = cond (c.first == v) c.second (cond (c.second == v) c.third c.first)

-- the spoke of v in a face, if v is a corner
abbrev pub spoke_in : ℕ → ℕ × Corners → List Spoke
spoke_in v e = cond (has_corner e.1 v) (record { face = e.0; to = next_corner e.1 v } ∷ []) []

-- the spokes of v in faces, the last face first
abbrev pub falling_spokes : ℕ → List (ℕ × Corners) → List Spoke
falling_spokes v [] = []
falling_spokes v (e ∷ rest) = falling_spokes v rest ++ spoke_in v e

-- at each key begins a ring of its face
abbrev pub AreRings : Sides → Keys → Type 0
AreRings sides keys =
    (f key : ℕ) → finite.get keys f ≡ Some key → IsRing sides f (corners_at sides key) key

-- each face is a ring of sides, and the half-edges that leave a vertex are its sides in its faces
pub record AreTied (woven : Woven) (keys : Keys) : Type 0 where
  pub rings : AreRings woven.sides keys
  pub spokes : (v : ℕ) →
      spokes_at woven.fans v ≡ falling_spokes v (finite.entries (faces_in woven.sides keys))

-- the same of the live faces, and each buried face is a ring of sides
pub record AreKept (woven : Woven) (keys : Stock ℕ) : Type 0 where
  pub live : AreTied woven keys.live
  pub buried : AreRings woven.sides keys.buried

-- each corner has a fan
abbrev pub HaveFans : Fans → Corners → Type 0
HaveFans fans c =
    IsSome (finite.get fans c.first)
    × IsSome (finite.get fans c.second)
    × IsSome (finite.get fans c.third)

-- the new fans have the ring of a new face, and else what the old had
pub record HasRing (old new : Woven) (f : ℕ) (c : Corners) (key : ℕ) : Type 0 where
  pub ring : IsRing new.sides f c key
  pub sides : (k : ℕ) (side : Side) → side_at old.sides k ≡ Some side →
      side_at new.sides k ≡ Some side
  pub spokes : (v : ℕ) → spokes_at new.fans v ≡ spoke_in v (f, c) ++ spokes_at old.fans v
  pub vertices : vertices_in new.fans ≡ vertices_in old.fans

-- a face more, at any place: the fans of its corners have it, and all sides stay
pub record HasRaised (w x : Woven) (f : ℕ) (c : Corners) : Type 0 where
  pub sides : (k : ℕ) → side_at x.sides k ≡ side_at w.sides k
  pub first : spokes_at x.fans c.first
      ≡ put_spoke (record { face = f; to = c.second }) (spokes_at w.fans c.first)
  pub second : spokes_at x.fans c.second
      ≡ put_spoke (record { face = f; to = c.third }) (spokes_at w.fans c.second)
  pub third : spokes_at x.fans c.third
      ≡ put_spoke (record { face = f; to = c.first }) (spokes_at w.fans c.third)
  pub others : (v : ℕ) → v ≢ c.first → v ≢ c.second → v ≢ c.third →
      spokes_at x.fans v ≡ spokes_at w.fans v
  pub vertices : vertices_in x.fans ≡ vertices_in w.fans

-- a face less: the fans of its corners have lost it, and the other faces have their sides
pub record HasLost (w x : Woven) (f : ℕ) (c : Corners) : Type 0 where
  pub sides : (k : ℕ) (side : Side) → side_at w.sides k ≡ Some side → side.face ≢ f →
      side_at x.sides k ≡ Some side
  pub first : spokes_at x.fans c.first ≡ without f (spokes_at w.fans c.first)
  pub second : spokes_at x.fans c.second ≡ without f (spokes_at w.fans c.second)
  pub third : spokes_at x.fans c.third ≡ without f (spokes_at w.fans c.third)
  pub others : (v : ℕ) → v ≢ c.first → v ≢ c.second → v ≢ c.third →
      spokes_at x.fans v ≡ spokes_at w.fans v
  pub vertices : vertices_in x.fans ≡ vertices_in w.fans
