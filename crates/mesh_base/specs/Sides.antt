-- Which faces run from one vertex to another, the edges, and when a mesh is closed.
use Rattle.std.specs.Prelude.{◌≡◌, ℕ, ◌+◌, ◌<◌, ◌==◌, ◌&&◌, ◌||◌, Bool, List, map, length, nat_lt}
use Rattle.std.specs.List.{filter}
use Rattle.std.specs.FinMap as finite
use Rattle.mesh_base.specs.declared.ids.Corners.{Corners}
use Rattle.mesh_base.specs.Mesh.{Mesh}

-- whether v follows u in the corners
abbrev pub follows : Corners → ℕ → ℕ → Bool
follows c u v =
    (c.first == u && c.second == v)
    || (c.second == u && c.third == v)
    || (c.third == u && c.first == v)

-- whether v is a corner
abbrev pub has_corner : Corners → ℕ → Bool
has_corner c v = (c.first == v) || (c.second == v) || (c.third == v)

-- the ids of the entries whose corners pass
abbrev pub ids_where : (Corners → Bool) → List (ℕ × Corners) → List ℕ
ids_where test entries = map (λ e. e.0) (filter (λ e. test e.1) entries)

-- the ids of the faces whose corners pass, rising
abbrev pub faces_where : (Corners → Bool) → Mesh → List ℕ
faces_where test m = ids_where test (finite.entries m.faces)

-- the faces in which v follows u, rising
abbrev pub faces_running : Mesh → ℕ → ℕ → List ℕ
faces_running m u v = faces_where (λ c. follows c u v) m

-- in how many faces v follows u
abbrev pub runs : Mesh → ℕ → ℕ → ℕ
runs m u v = length (faces_running m u v)

-- the faces at v, rising
abbrev pub faces_at : Mesh → ℕ → List ℕ
faces_at m v = faces_where (λ c. has_corner c v) m

-- each two vertices are run between as often one way as the other
abbrev pub IsClosed : Mesh → Type 0
IsClosed m = (u v : ℕ) → runs m u v ≡ runs m v u

-- some face has both as neighbours
abbrev pub IsEdge : Mesh → ℕ → ℕ → Type 0
IsEdge m u v = 0 < runs m u v + runs m v u

-- the ids above a number
abbrev pub above : ℕ → List ℕ → List ℕ
above n ids = filter (λ id. nat_lt n id) ids
