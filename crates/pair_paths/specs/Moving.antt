-- Edges and faces with the paths of their vertices.
use Rattle.std.specs.Prelude.{ℕ, List, map}
use Rattle.std.specs.Option.{option_map}
use Rattle.std.proofs.Common.{Option}
use Rattle.std.specs.FinMap as finite
use Rattle.mesh_base.specs.declared.ids.Corners.{Corners}
use Rattle.mesh_base.specs.Mesh.{Mesh}
use Rattle.mesh_base.specs.Placements.{Motion}
use Rattle.pair_paths.specs.Paths.{path_along}
use Rattle.pair_paths.specs.declared.moving_parts.MovingEdge.{MovingEdge}
use Rattle.pair_paths.specs.declared.moving_parts.MovingFace.{MovingFace}

-- an edge with the paths of its ends
abbrev pub moving_edge : Motion → ℕ → ℕ → MovingEdge
moving_edge w a b = record { a = a; b = b; first = path_along w a; second = path_along w b }

-- a face by its id and its corners, with the paths of the corners
abbrev pub moving_face : Motion → ℕ × Corners → MovingFace
moving_face w f = record {
  face = f.0;
  corners = f.1;
  c = path_along w f.1.first;
  d = path_along w f.1.second;
  e = path_along w f.1.third;
}

-- the same of a face by its id, if it is live
abbrev pub live_face : Mesh → Motion → ℕ → Option MovingFace
live_face m w f = option_map (λ c. moving_face w (f, c)) (finite.get m.faces f)

-- the faces, rising
abbrev pub moving_faces : Mesh → Motion → List MovingFace
moving_faces m w = map (moving_face w) (finite.entries m.faces)
