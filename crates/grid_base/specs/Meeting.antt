-- When an edge and a triangle meet.
use Rattle.std.specs.Prelude.{◌≡◌, ℕ, ◌+◌, ◌<◌}
use Rattle.grid_base.specs.Triples.{Triple, IsWithin, plus, times}
pub use Rattle.grid_base.specs.declared.pair_positions.Positions.{Positions}

-- each of the five positions is within this size
pub record AreWithin (most : ℕ) (f : Positions) : Type 0 where
  pub a : IsWithin most f.a
  pub b : IsWithin most f.b
  pub c : IsWithin most f.c
  pub d : IsWithin most f.d
  pub e : IsWithin most f.e

-- The edge and the triangle meet: whole weights, none negative and not all zero, of the same sum on
-- both sides, that give the same position.
pub record Meets (a b c d e : Triple) : Type 0 where
  pub i : ℕ
  pub j : ℕ
  pub k : ℕ
  pub l : ℕ
  pub m : ℕ
  pub some_weight : 0 < i + j
  pub same_weight : i + j ≡ k + l + m
  pub same_position : plus (times i a) (times j b) ≡ plus (plus (times k c) (times l d)) (times m e)

-- the same of five positions together
abbrev pub MeetAt : Positions → Type 0
MeetAt f = Meets f.a f.b f.c f.d f.e
