-- What a tally's counts are.
use Rattle.std.specs.Prelude.{◌≡◌, ℕ, List, take}
use Rattle.outside_io.specs.declared.line_counts.LineCounts.{LineCounts}
use Rattle.outside_io.specs.ToldLines.{lines_in, steps_in, whole_steps_in, splits_in, open_line, capped}

-- the counts are those of this text, and the kept bytes the first of its line that has not ended
abbrev pub AreOf : LineCounts → List ℕ → Type 0
AreOf counts text = (counts.lines ≡ capped (lines_in text))
    × (counts.steps ≡ capped (steps_in text))
    × (counts.whole_steps ≡ capped (whole_steps_in text))
    × (counts.splits ≡ capped (splits_in text))
    × (take counts.len counts.front ≡ take 12 (open_line text))
