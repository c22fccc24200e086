-- Positions that move in straight lines from a start to an end, and where they
-- stand at a fraction p/q of the way.
use Rattle.std.specs.Prelude.{ℕ, ◌-◌, ◌<◌, ◌≤◌}
use Rattle.grid_base.specs.Triples.{Triple, plus, times}
use Rattle.grid_base.specs.Meeting.{Positions, MeetAt}

-- where a position stands at p/q of its way, in units of 1/q
abbrev pub position_at : ℕ → ℕ → Triple → Triple → Triple
position_at p q start end = plus (times (q - p) start) (times p end)

-- where all five positions stand at p/q of their way
abbrev pub positions_at : ℕ → ℕ → Positions → Positions → Positions
positions_at p q start end = record {
  a = position_at p q start.a end.a;
  b = position_at p q start.b end.b;
  c = position_at p q start.c end.c;
  d = position_at p q start.d end.d;
  e = position_at p q start.e end.e;
}

-- they meet at no fraction of the way
abbrev pub NeverMeet : Positions → Positions → Type 0
NeverMeet start end = (p q : ℕ) → 0 < q → p ≤ q → ¬ (MeetAt (positions_at p q start end))

-- they meet at no fraction above zero
abbrev pub NeverMeetAfterStart : Positions → Positions → Type 0
NeverMeetAfterStart start end = (p q : ℕ) → 0 < p → p ≤ q → ¬ (MeetAt (positions_at p q start end))

-- they meet at no fraction below one
abbrev pub NeverMeetBeforeEnd : Positions → Positions → Type 0
NeverMeetBeforeEnd start end = (p q : ℕ) → p < q → ¬ (MeetAt (positions_at p q start end))
