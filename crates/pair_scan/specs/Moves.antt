-- Moves of vertices in half units.
use Rattle.grid_base.specs.declared.TheConstants.{HALF_MAX}
use Rattle.grid_base.specs.Triples.{IsWithin}
use Rattle.edit_base.specs.declared.Move.{Move}

-- the move begins and ends within the greatest size of a position in half units
pub record MoveFits (move : Move) : Type 0 where
  pub start : IsWithin HALF_MAX move.start
  pub end : IsWithin HALF_MAX move.end
