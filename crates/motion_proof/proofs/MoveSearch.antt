-- A search among moves by the ids of their vertices.
use Rattle.std.proofs.Common.{ℕ}
use Rattle.edit_base.specs.declared.Move.{Move}
use Rattle.motion_test.specs.Pairs.{origin}

abbrev pub id_of : Move → ℕ
id_of s = s.v

-- a move that stands past the end
abbrev pub past : ℕ → Move
past v = record { v = v; start = origin; end = origin }
