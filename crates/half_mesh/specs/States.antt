-- A mesh together with what is buried of it: what was dropped, kept so that it can be raised again.
use Rattle.std.specs.Prelude.{◌≡◌, ℕ, ◌+◌, ◌<◌, ◌≤◌, false, List, [], All, map as map_list, IsSome, None, Some, Option}
use Rattle.std.specs.Ordering.{nat_cmp}
use Rattle.std.specs.FinMap as map
use Rattle.grid_base.specs.declared.Point.{Point}
use Rattle.mesh_base.specs.declared.ids.Corners.{Corners}
use Rattle.mesh_base.specs.Mesh.{Mesh, IdSet, IsLiveVertex, IsLiveFace, HasCorners, AreLive, AreDifferent, equal_up_to_rotation}
use Rattle.mesh_base.specs.Sides.{faces_at, has_corner}
use Rattle.mesh_base.specs.Changes.{without_face, without_vertex, with_point}
use Rattle.mesh_shape.specs.Numbered.{numbered}

-- the points of the buried vertices, the corners of the buried faces, and
-- the buried vertices that are solid
pub record Buried : Type 0 where
  pub points : map.FinMap nat_cmp Point
  pub faces : map.FinMap nat_cmp Corners
  pub solid : IdSet

-- nothing buried
abbrev pub none_buried : Buried
none_buried = record { points = map.empty; faces = map.empty; solid = map.empty }

-- a mesh, and what is buried
pub record State : Type 0 where
  pub mesh : Mesh
  pub buried : Buried

-- the state with another mesh
abbrev pub with_mesh : State → Mesh → State
with_mesh s m = record { mesh = m; buried = s.buried }

-- a map with an item put at a key, if there is one
abbrev pub with_some : {X : Type 0} → map.FinMap nat_cmp X → ℕ → Option X → map.FinMap nat_cmp X
with_some to k (Some x) = map.insert to k x
with_some to k None = to

-- the second map, with what the first has at the key
abbrev pub carry : {X : Type 0} → map.FinMap nat_cmp X → map.FinMap nat_cmp X → ℕ →
    map.FinMap nat_cmp X
carry from to k = with_some to k (map.get from k)

-- a face goes from the live ones to the buried ones
abbrev pub bury_face : State → ℕ → State
bury_face s f = record {
  mesh = without_face s.mesh f;
  buried = record s.buried { faces = carry s.mesh.faces s.buried.faces f };
}

-- a vertex goes from the live ones to the buried ones, with its mark as solid, if it has one
abbrev pub bury_vertex : State → ℕ → State
bury_vertex s v = record {
  mesh = without_vertex s.mesh v;
  buried = record s.buried {
    points = carry s.mesh.points s.buried.points v;
    solid = carry s.mesh.solid s.buried.solid v;
  };
}

-- a buried face is live again, with its old corners
abbrev pub raise_face : State → ℕ → State
raise_face s f = record {
  mesh = record s.mesh { faces = carry s.buried.faces s.mesh.faces f };
  buried = record s.buried { faces = map.remove s.buried.faces f };
}

-- a buried vertex is live again, with its old point and mark
abbrev pub raise_vertex : State → ℕ → State
raise_vertex s v = record {
  mesh = record s.mesh {
    points = carry s.buried.points s.mesh.points v;
    solid = carry s.buried.solid s.mesh.solid v;
  };
  buried = record s.buried {
    points = map.remove s.buried.points v;
    solid = map.remove s.buried.solid v;
  };
}

-- the face made last is gone, and its id is the next again
abbrev pub unmake_face : State → ℕ → State
unmake_face s f = with_mesh s (record (without_face s.mesh f) { next_face = f })

-- the vertex made last is gone, and its id is the next again
abbrev pub unmake_vertex : State → ℕ → State
unmake_vertex s v = with_mesh s (record (without_vertex s.mesh v) { next_vertex = v })

-- the vertex is solid no longer
abbrev pub without_solid : Mesh → ℕ → Mesh
without_solid m v = record m { solid = map.remove m.solid v }

-- a live vertex stands at a point
abbrev pub place_vertex : State → ℕ → Point → State
place_vertex s v p = with_mesh s (with_point s.mesh v p)

-- a live vertex is solid no longer
abbrev pub unmake_solid : State → ℕ → State
unmake_solid s v = with_mesh s (without_solid s.mesh v)

-- the next vertex and the next face get these ids
abbrev pub set_next : State → ℕ → ℕ → State
set_next s next_vertex next_face = with_mesh s (numbered s.mesh next_vertex next_face)

-- it is buried, one more may live, its corners live, and no live face equals it
pub record CanRaiseFace (s : State) (f : ℕ) : Type 0 where
  pub buried : IsSome (map.get s.buried.faces f)
  pub room : map.len s.mesh.faces < s.mesh.limits.faces
  pub live : (c : Corners) → map.get s.buried.faces f ≡ Some c → AreLive s.mesh c
  pub new : (g : ℕ) (c d : Corners) → map.get s.buried.faces f ≡ Some c → HasCorners s.mesh g d →
      equal_up_to_rotation d c ≡ false

-- it is buried, and one more may live
pub record CanRaiseVertex (s : State) (v : ℕ) : Type 0 where
  pub buried : IsSome (map.get s.buried.points v)
  pub room : map.len s.mesh.points < s.mesh.limits.vertices

-- it lives, and was made last
pub record CanUnmakeFace (s : State) (f : ℕ) : Type 0 where
  pub live : IsLiveFace s.mesh f
  pub last : f + 1 ≡ s.mesh.next_face

-- it lives, was made last, and no face, live or buried, has it as a corner
pub record CanUnmakeVertex (s : State) (v : ℕ) : Type 0 where
  pub live : IsLiveVertex s.mesh v
  pub last : v + 1 ≡ s.mesh.next_vertex
  pub bare : faces_at s.mesh v ≡ []
  pub unheld : (f : ℕ) (c : Corners) → map.get s.buried.faces f ≡ Some c → has_corner c v ≡ false

-- what is buried is not live, and it and its corners were made
pub record AreApart (s : State) : Type 0 where
  pub vertices : (v : ℕ) → IsSome (map.get s.buried.points v) → map.get s.mesh.points v ≡ None
  pub vertex_ids : (v : ℕ) → IsSome (map.get s.buried.points v) → (1 ≤ v) × (v < s.mesh.next_vertex)
  pub faces : (f : ℕ) → IsSome (map.get s.buried.faces f) → map.get s.mesh.faces f ≡ None
  pub face_ids : (f : ℕ) → IsSome (map.get s.buried.faces f) → (1 ≤ f) × (f < s.mesh.next_face)
  pub corners : (f : ℕ) (c : Corners) → map.get s.buried.faces f ≡ Some c →
      (c.first < s.mesh.next_vertex) × (c.second < s.mesh.next_vertex)
      × (c.third < s.mesh.next_vertex)
  pub different : (f : ℕ) (c : Corners) → map.get s.buried.faces f ≡ Some c → AreDifferent c

-- a mesh with what is buried of it, and how many additions find memory
pub record Ledger : Type 0 where
  pub state : State
  pub spare : ℕ

-- the meshes of ledgers
abbrev pub meshes_of : List Ledger → List Mesh
meshes_of ledgers = map_list (λ l. l.state.mesh) ledgers

-- nothing is buried
pub record HasNone (b : Buried) : Type 0 where
  pub points : map.len b.points ≡ 0
  pub faces : map.len b.faces ≡ 0
  pub solid : map.len b.solid ≡ 0

-- nothing is buried in any of them
abbrev pub NoneBuried : List Ledger → Type 0
NoneBuried ledgers = All (λ l. HasNone l.state.buried) ledgers
