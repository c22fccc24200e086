-- The written test of a motion as a test that computes. `meets` is a test that
-- tells whether five positions meet.
use Rattle.std.specs.Prelude.{ℕ, zero, suc, Bool, ◌&&◌, ◌||◌, not, ◌↔◌, IsTrue, ℤ, int_lt, int_le, pos, ◌-ℤ◌}
use Rattle.std.specs.List.{list_any}
use Rattle.grid_base.specs.Triples.{Triple, minus, opposite, dot}
use Rattle.grid_base.specs.declared.pair_positions.Positions.{Positions}
use Rattle.grid_base.specs.Meeting.{MeetAt}
use Rattle.grid_base.specs.Separation.{directions, double, middle}

-- the test is right for all positions
abbrev pub IsExact : (Positions → Bool) → Type 0
IsExact meets = (f : Positions) → IsTrue (meets f) ↔ MeetAt f

-- each of three numbers is above the first
abbrev pub is_least : ℤ → ℤ → ℤ → ℤ → Bool
is_least a c d e = int_lt a c && int_lt a d && int_lt a e

-- each of three numbers is the first or above it
abbrev pub is_at_most : ℤ → ℤ → ℤ → ℤ → Bool
is_at_most a c d e = int_le a c && int_le a d && int_le a e

-- both edge ends are strictly below all three corners, along the direction n
abbrev pub is_below : Triple → Positions → Bool
is_below n f =
    is_least (dot n f.a) (dot n f.c) (dot n f.d) (dot n f.e)
    && is_least (dot n f.b) (dot n f.c) (dot n f.d) (dot n f.e)

-- both edge ends are below all three corners or level with them, along the direction n
abbrev pub is_weakly_below : Triple → Positions → Bool
is_weakly_below n f =
    is_at_most (dot n f.a) (dot n f.c) (dot n f.d) (dot n f.e)
    && is_at_most (dot n f.b) (dot n f.c) (dot n f.d) (dot n f.e)

-- the edge is below at the start and at the end, or above at both
abbrev pub keeps_apart : Positions → Positions → Triple → Bool
keeps_apart start end n =
    (is_below n start && is_below n end)
    || (is_below (opposite n) start && is_below (opposite n) end)

-- the edge is weakly below at the start and below at the end, or weakly above and then above
abbrev pub takes_apart : Positions → Positions → Triple → Bool
takes_apart start end n =
    (is_weakly_below n start && is_below n end)
    || (is_weakly_below (opposite n) start && is_below (opposite n) end)

-- Some direction keeps the edge and the triangle apart; or, where depth is left, both
-- halves of the interval are separated.
abbrev pub are_separated : ℕ → Positions → Positions → Bool
are_separated zero start end = list_any (keeps_apart start end) (directions start end)
are_separated (suc depth) start end =
    list_any (keeps_apart start end) (directions start end)
    || (are_separated depth (double start) (middle start end)
    && are_separated depth (middle start end) (double end))

-- whether a number is zero
abbrev pub is_zero : ℤ → Bool
is_zero z = int_le z (pos 0) && int_le (pos 0) z

-- whether two triples are one
abbrev pub same_triple : Triple → Triple → Bool
same_triple s t = is_zero (s.x -ℤ t.x) && is_zero (s.y -ℤ t.y) && is_zero (s.z -ℤ t.z)

-- the five positions all move by one shift
abbrev pub move_together : Positions → Positions → Bool
move_together s t =
    same_triple (minus t.b s.b) (minus t.a s.a) && same_triple (minus t.c s.c) (minus t.a s.a)
    && same_triple (minus t.d s.d) (minus t.a s.a) && same_triple (minus t.e s.e) (minus t.a s.a)

-- The pair is separated, or moves as one and does not meet at the start.
abbrev pub passes : (Positions → Bool) → ℕ → Positions → Positions → Bool
passes meets depth start end =
    are_separated depth start end || (move_together start end && not (meets start))

-- Some direction takes the edge and the triangle apart; or, where depth is left, the first half
-- opens and the second is separated.
abbrev pub opens : ℕ → Positions → Positions → Bool
opens zero start end = list_any (takes_apart start end) (directions start end)
opens (suc depth) start end =
    list_any (takes_apart start end) (directions start end)
    || (opens depth (double start) (middle start end)
    && are_separated depth (middle start end) (double end))

-- The pair opens where its start and its end are exchanged.
abbrev pub closes : ℕ → Positions → Positions → Bool
closes depth start end = opens depth end start

-- the test is true of a pair to a depth exactly where the fact holds of it
abbrev pub IsTestOf : (ℕ → Positions → Positions → Bool) →
    (ℕ → Positions → Positions → Type 0) → Type 0
IsTestOf test P = (depth : ℕ) (s t : Positions) → (IsTrue (test depth s t) ↔ P depth s t)
