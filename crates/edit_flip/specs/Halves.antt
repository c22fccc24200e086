-- A face cut in two from a corner to the middle of the opposite side, and an edge cut in two.
use Rattle.std.specs.Prelude.{◌⊎◌}
use Rattle.grid_base.specs.Triples.{Triple, plus, times}
use Rattle.grid_base.specs.Meeting.{Meets}

-- An edge that meets the face a, d, c meets one of the two parts of it on either side of the middle
-- w of c and d. All in half units.
abbrev pub FaceIsTwoFaces : Type 0
FaceIsTwoFaces = (x y a c d : Triple) → Meets x y a d c →
    Meets (times 2 x) (times 2 y) (times 2 a) (plus c d) (times 2 c)
    ⊎ Meets (times 2 x) (times 2 y) (plus c d) (times 2 a) (times 2 d)

-- What meets the edge c, d meets one of its two halves. All in half units.
abbrev pub EdgeIsTwoEdges : Type 0
EdgeIsTwoEdges = (c d x y z : Triple) → Meets c d x y z →
    Meets (times 2 c) (plus c d) (times 2 x) (times 2 y) (times 2 z)
    ⊎ Meets (plus c d) (times 2 d) (times 2 x) (times 2 y) (times 2 z)
