-- Which pairs a check need not look at: those of an old edge and an
-- old face of which no vertex moves.
use Rattle.std.specs.Prelude.{◌≡◌, ℕ, ◌<◌, ◌⊎◌, IsTrue, List}
use Rattle.std.specs.List.{All}
use Rattle.std.proofs.Common.{None}
use Rattle.grid_base.specs.Meeting.{MeetAt}
use Rattle.mesh_base.specs.declared.ids.Corners.{Corners}
use Rattle.mesh_base.specs.Mesh.{Mesh, HasCorners}
use Rattle.mesh_base.specs.Sides.{follows}
use Rattle.mesh_base.specs.Pairs.{Pair, IsPair, five_ids}
use Rattle.mesh_base.specs.Placements.{rest_positions_doubled, positions}
use Rattle.edit_base.specs.declared.Move.{Move}
use Rattle.edit_base.specs.Scaffold.{move_of}
pub use Rattle.pair_scan.specs.Moves.{MoveFits}

-- a face below this id runs between the two, one way or the other
pub record IsOldEdge (m : Mesh) (fresh_from : ℕ) (u v : ℕ) : Type 0 where
  pub face : ℕ
  pub corners : Corners
  pub is_old : face < fresh_from
  pub is_face : HasCorners m face corners
  pub side : IsTrue (follows corners u v) ⊎ IsTrue (follows corners v u)

-- a pair of an old edge and an old face, of which no vertex is named by a move
pub record IsUntouched (m : Mesh) (moves : List Move) (fresh_from : ℕ) (p : Pair) : Type 0 where
  pub is_pair : IsPair m p
  pub old_edge : IsOldEdge m fresh_from p.name.a p.name.b
  pub old_face : p.name.face < fresh_from
  pub still : All (λ v. move_of moves v ≡ None) (five_ids p)

-- no untouched pair meets where its vertices stand, in half units
abbrev pub IsClearWhereUntouched : Mesh → List Move → ℕ → Type 0
IsClearWhereUntouched m moves fresh_from = (p : Pair) → IsUntouched m moves fresh_from p →
    ¬ (MeetAt (positions (rest_positions_doubled m) p))
