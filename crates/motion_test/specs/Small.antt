-- Sizes before a motion is halved, which 64 bits hold, and sizes at each depth.
use Rattle.std.specs.Prelude.{ℕ, ◌*◌, ◌^◌, ◌-◌, Bool, true, false}
use Rattle.grid_base.specs.declared.TheConstants.{DEPTH_MAX, HALF_MAX, WIDE_MAX, DIFFERENCE_MAX, DIRECTION_MAX}
use Rattle.grid_base.specs.declared.narrow.TheConstants.{SPAN_MAX, NORMAL_MAX}

-- the greatest size of a position
abbrev pub position_max : Bool → ℕ
position_max true = HALF_MAX
position_max false = WIDE_MAX

-- of a difference of two
abbrev pub difference_max : Bool → ℕ
difference_max true = SPAN_MAX
difference_max false = DIFFERENCE_MAX

-- of a direction
abbrev pub direction_max : Bool → ℕ
direction_max true = NORMAL_MAX
direction_max false = DIRECTION_MAX

-- of a position where so much depth is left
abbrev pub position_max_at : ℕ → Bool → ℕ
position_max_at depth true = HALF_MAX
position_max_at depth false = HALF_MAX * 2 ^ (DEPTH_MAX - depth)
