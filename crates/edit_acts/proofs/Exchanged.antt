-- What meets an edge meets it with its ends the other way round.
use Rattle.std.proofs.Common.{◌≡◌, ◌∙◌, arith}
use Rattle.std.proofs.Math.IntN.{+ℤ_comm}
use Rattle.grid_base.specs.Triples.{Triple, plus, times}
use Rattle.grid_base.specs.Meeting.{Meets}
use Rattle.grid_base.proofs.MeetingLaws.{same_triple}

pub plus_comm : (s t : Triple) → plus s t ≡ plus t s
plus_comm s t = same_triple _ _ (+ℤ_comm s.x t.x) (+ℤ_comm s.y t.y) (+ℤ_comm s.z t.z)

-- the ends of the edge the other way round
abbrev pub Meets-exchanged : (a b c d e : Triple) → Meets a b c d e → Meets b a c d e
Meets-exchanged a b c d e w = record {
  i = w.j;
  j = w.i;
  k = w.k;
  l = w.l;
  m = w.m;
  some_weight = let e = w.some_weight in omega (arith, e);
  same_weight = let e = w.same_weight in omega (arith, e);
  same_position = plus_comm (times w.j b) (times w.i a) ∙ w.same_position;
}
