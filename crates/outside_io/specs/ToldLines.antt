-- The lines of a text that is still being written, and how many of them are of a kind.
use Rattle.std.specs.Prelude.{ℕ, ◌-◌, ◌^◌, min, Bool, ◌==◌, if◌then◌else◌, List, [], ◌∷◌, ◌++◌, length, count_by, bytes_eq, nat_eq, codes}
use Rattle.std.specs.List.{starts_with}

-- the byte at which a line ends
abbrev pub LF : ℕ
LF = 10

-- the lines that have ended, each without its LF; the first begins with what stands in front
abbrev pub ended_behind : List ℕ → List ℕ → List (List ℕ)
ended_behind front [] = []
ended_behind front (b ∷ bs) =
    if b == LF then front ∷ ended_behind [] bs else ended_behind (front ++ b ∷ []) bs

-- the line that has not ended
abbrev pub open_behind : List ℕ → List ℕ → List ℕ
open_behind front [] = front
open_behind front (b ∷ bs) = if b == LF then open_behind [] bs else open_behind (front ++ b ∷ []) bs

-- the lines of a text that have ended
abbrev pub ended_lines : List ℕ → List (List ℕ)
ended_lines text = ended_behind [] text

-- what stands behind the last of them
abbrev pub open_line : List ℕ → List ℕ
open_line text = open_behind [] text

-- whether a line tells that a step begins
abbrev pub tells_step : List ℕ → Bool
tells_step line = starts_with nat_eq line (codes "step ")

-- whether a line tells a step that is taken with the asked shifts
abbrev pub tells_whole_step : List ℕ → Bool
tells_whole_step line = bytes_eq line (codes "moved whole")

-- whether a line tells a split
abbrev pub tells_split : List ℕ → Bool
tells_split line = starts_with nat_eq line (codes "split ")

-- how many lines of a text have ended, and how many of them tell a step, such a step, or a split
abbrev pub lines_in : List ℕ → ℕ
lines_in text = length (ended_lines text)

-- how many lines that have ended tell a step
abbrev pub steps_in : List ℕ → ℕ
steps_in text = count_by tells_step (ended_lines text)

-- how many tell a step that is taken as requested
abbrev pub whole_steps_in : List ℕ → ℕ
whole_steps_in text = count_by tells_whole_step (ended_lines text)

-- how many tell a split
abbrev pub splits_in : List ℕ → ℕ
splits_in text = count_by tells_split (ended_lines text)

-- a count, which stands still at its end
abbrev pub capped : ℕ → ℕ
capped count = min count (2 ^ 64 - 1)
