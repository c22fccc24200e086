-- The mesh of n * n * n separate cubes in rows, as lists. Cubes are counted from 0, along x
-- first, then along y, then along z.
use Rattle.std.specs.Prelude.{◌≡◌, ℕ, ◌+◌, ◌*◌, ◌/◌, ◌%◌, ◌≤◌, List, [], ◌∷◌, ◌++◌, map, pos}
use Rattle.std.specs.List.{flat_map, range_with_len}
use Rattle.grid_base.specs.Triples.{Triple, plus}
use Rattle.grid_base.specs.declared.Point.{Point}
use Rattle.grid_base.specs.Points.{position_of, point_at}
use Rattle.mesh_base.specs.Mesh.{Mesh}
use Rattle.mesh_base.specs.Given.{Faces, mesh_of}
use Rattle.obj_text.specs.Obj.{Lists, fan}
use Rattle.mesh_make.specs.declared.TheConstants.{ROW_MAX}

-- there may be so many cubes in a row
pub record IsRow (n : ℕ) : Type 0 where
  pub some : 1 ≤ n
  pub few : n ≤ ROW_MAX

-- the cubes of rows of n
abbrev pub cubes_of : ℕ → List ℕ
cubes_of n = range_with_len 0 (n * n * n)

-- the triple of three numbers that are not negative
abbrev pub at : ℕ → ℕ → ℕ → Triple
at x y z = record { x = pos x; y = pos y; z = pos z }

-- where the least corner of a cube stands: a cube is 100 behind the one before it
abbrev pub least_corner : ℕ → ℕ → Triple
least_corner n cube = at (100 * (cube % n)) (100 * (cube / n % n)) (100 * (cube / n / n))

-- how far the eight vertices are from the least corner
unfoldable pub corner_offsets : List Triple
corner_offsets =
    at 0 0 0 ∷ at 40 0 0 ∷ at 40 40 0 ∷ at 0 40 0
    ∷ at 0 0 40 ∷ at 40 0 40 ∷ at 40 40 40 ∷ at 0 40 40 ∷ []

-- the six squares of a cube, by the numbers of its vertices from 1, each seen from outside
unfoldable pub squares : Faces
squares =
    (1 ∷ 4 ∷ 3 ∷ 2 ∷ []) ∷ (5 ∷ 6 ∷ 7 ∷ 8 ∷ []) ∷ (1 ∷ 2 ∷ 6 ∷ 5 ∷ [])
    ∷ (2 ∷ 3 ∷ 7 ∷ 6 ∷ []) ∷ (3 ∷ 4 ∷ 8 ∷ 7 ∷ []) ∷ (4 ∷ 1 ∷ 5 ∷ 8 ∷ []) ∷ []

-- where the vertex of a cube at this offset stands
abbrev pub vertex_at : ℕ → ℕ → ℕ × ℕ × ℕ → Triple
vertex_at n cube o = plus (least_corner n cube) (at o.0 o.1 o.2)

-- points stand where others do, and then at these places
abbrev pub StandAlso : List Point → List Point → List Triple → Type 0
StandAlso new old places = map position_of new ≡ map position_of old ++ places

-- where the vertices of a cube stand
abbrev pub cube_points : ℕ → ℕ → List Triple
cube_points n cube = map (λ o. plus (least_corner n cube) o) corner_offsets

-- the faces of a cube: each square of it cut into two triangles; its vertices
-- follow those of the cubes before it
abbrev pub cube_faces : ℕ → Faces
cube_faces cube = flat_map (λ square. fan (map (λ v. 8 * cube + v) square)) squares

-- the points and the faces of all cubes
abbrev pub cubes_lists : ℕ → Lists
cubes_lists n = record {
  points = flat_map (cube_points n) (cubes_of n);
  faces = flat_map cube_faces (cubes_of n);
}

-- the mesh that they make
abbrev pub cubes_mesh : ℕ → Mesh
cubes_mesh n = mesh_of (map point_at (cubes_lists n).points) (cubes_lists n).faces
