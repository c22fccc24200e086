-- Words for segments: a triangle whose corners d and e are one position is the segment from c to d.
use Rattle.std.specs.Prelude.{◌≡◌, ◌⊎◌, pos}
use Rattle.grid_base.specs.Triples.{Triple}
use Rattle.grid_base.specs.Meeting.{Meets}

-- the vector of no length
pub record HasNoLength (n : Triple) : Type 0 where
  pub x : n.x ≡ pos 0
  pub y : n.y ≡ pos 0
  pub z : n.z ≡ pos 0

-- the edge from a to b meets a side of the triangle
abbrev pub MeetsSide : Triple → Triple → Triple → Triple → Triple → Type 0
MeetsSide a b c d e = Meets a b c d d ⊎ (Meets a b d e e ⊎ Meets a b e c c)
