-- On what an edit is tested: a mesh with moves in half units, and what is required of its pairs.
use Rattle.std.specs.Prelude.{ℕ, ◌==◌, ◌&&◌, ◌||◌, Bool, not, List, if◌then◌else◌}
use Rattle.std.specs.Option.{option_map, unwrap_or}
use Rattle.std.specs.List.{find, list_any}
use Rattle.std.proofs.Common.{Option}
use Rattle.grid_base.specs.declared.Positions.{Positions}
use Rattle.grid_base.specs.Triples.{Triple}
use Rattle.edit_base.specs.declared.scaffold.Touch.{Touch}
use Rattle.edit_base.specs.declared.scaffold.Touch.TheVariants.{Never, Start, End}
use Rattle.edit_base.specs.declared.scaffold.Move.{Move}
use Rattle.mesh_base.specs.declared.ids.PairName.{PairName}
use Rattle.mesh_base.specs.Mesh.{Mesh}
use Rattle.mesh_base.specs.Sides.{has_corner}
use Rattle.mesh_base.specs.Pairs.{Pair, pairs}
use Rattle.mesh_base.specs.Placements.{Motion, IsClearAlong, IsClearAfter, IsClearBefore, rest_positions_doubled, positions}
use Rattle.grid_base.specs.SeparationTests.{passes, opens, closes}

-- The mesh, the vertices that move, and the vertices of which two may touch each
-- other at the start or at the end.
pub record Scaffold : Type 0 where
  pub mesh : Mesh
  pub moves : List Move
  pub touch : Touch
  pub together : List ℕ

-- the move of a vertex, if it is named
abbrev pub move_of : List Move → ℕ → Option Move
move_of moves v = find (λ move. move.v == v) moves

-- the way of a vertex from where it stands to an end, in half units
abbrev pub move_from_rest : Mesh → ℕ → Triple → Move
move_from_rest m v end = record { v = v; start = rest_positions_doubled m v; end = end }

-- the named vertices move, and each other one stays at twice its point
abbrev pub motion_by : Mesh → List Move → Motion
motion_by m moves = record {
  start =
      λ v. unwrap_or (option_map (λ move. move.start) (move_of moves v))
      (rest_positions_doubled m v);
  end =
      λ v. unwrap_or (option_map (λ move. move.end) (move_of moves v)) (rest_positions_doubled m v);
}

-- the motion of a trial mesh: what moves goes, and all else rests
abbrev pub motion_of : Scaffold → Motion
motion_of s = motion_by s.mesh s.moves

-- the edge has one of the vertices and the face has another
abbrev pub joins_contacts : List ℕ → Pair → Bool
joins_contacts together p =
    list_any (λ v. (p.name.a == v) || (p.name.b == v)) together
    && list_any (λ v. has_corner p.corners v) together

-- what is required of a pair of which each member holds one
abbrev pub meets_contact_rule : (Positions → Bool) → Touch → ℕ → Positions → Positions → Bool
meets_contact_rule meets Never depth start end = passes meets depth start end
meets_contact_rule meets Start depth start end = opens depth start end
meets_contact_rule meets End depth start end = closes depth start end

-- The pair is as required: where each member holds one of the vertices it
-- opens or closes, and else it passes.
abbrev pub is_as_required : (Positions → Bool) → Scaffold → ℕ → Pair → Bool
is_as_required meets s depth p =
    let start = positions (motion_of s).start p in
    let end = positions (motion_of s).end p in
    if joins_contacts s.together p then meets_contact_rule meets s.touch depth start end
    else passes meets depth start end

-- the first pair, over all pairs of the scaffold, that is not as required
abbrev pub first_failing : (Positions → Bool) → Scaffold → ℕ → Option PairName
first_failing meets s depth =
    option_map (λ p. p.name) (find (λ p. not (is_as_required meets s depth p)) (pairs s.mesh))

-- clear at each fraction: but the start, or the end, where two may touch there
abbrev pub IsClearBut : Touch → Mesh → Motion → Type 0
IsClearBut Never m w = IsClearAlong m w
IsClearBut Start m w = IsClearAfter m w
IsClearBut End m w = IsClearBefore m w
