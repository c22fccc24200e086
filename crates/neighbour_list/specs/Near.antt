-- Whether an edge and a face stand near each other: their gap along each axis is at most a skin.
use Rattle.std.specs.Prelude.{ℕ, ℤ, pos, ◌+ℤ◌, Bool, ◌&&◌, int_le}
use Rattle.std.specs.Int.{int_min, int_max}
use Rattle.grid_base.specs.declared.Positions.{Positions}

-- along an axis, the first two numbers and the other three have a gap of at most the skin
abbrev pub near_along : ℕ → ℤ → ℤ → ℤ → ℤ → ℤ → Bool
near_along skin a b c d e =
    int_le (int_min c (int_min d e)) (int_max a b +ℤ pos skin)
    && int_le (int_min a b) (int_max c (int_max d e) +ℤ pos skin)

-- the box of the edge and the box of the face have a gap of at most the skin along each axis
abbrev pub is_near : ℕ → Positions → Bool
is_near skin f =
    near_along skin f.a.x f.b.x f.c.x f.d.x f.e.x
    && near_along skin f.a.y f.b.y f.c.y f.d.y f.e.y
    && near_along skin f.a.z f.b.z f.c.z f.d.z f.e.z
