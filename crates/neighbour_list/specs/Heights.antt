-- Heights along a direction: of the two ends of an edge, and of the three corners of a face.
use Rattle.std.specs.Prelude.{ℤ, ◌<ℤ◌}

-- the first two are less than the other three
abbrev pub AreBelow : ℤ → ℤ → ℤ → ℤ → ℤ → Type 0
AreBelow a b c d e = (a <ℤ c) × (b <ℤ c) × (a <ℤ d) × (b <ℤ d) × (a <ℤ e) × (b <ℤ e)

-- they are greater
abbrev pub AreAbove : ℤ → ℤ → ℤ → ℤ → ℤ → Type 0
AreAbove a b c d e = (c <ℤ a) × (c <ℤ b) × (d <ℤ a) × (d <ℤ b) × (e <ℤ a) × (e <ℤ b)
