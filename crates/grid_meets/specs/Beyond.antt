-- Numbers of an edge's two ends and of a triangle's three corners, along one axis.
use Rattle.std.specs.Prelude.{ℤ, ◌<ℤ◌, ◌⊎◌}

-- the two ends are both below the three corners, or both above them
abbrev pub LieBeyond : ℤ → ℤ → ℤ → ℤ → ℤ → Type 0
LieBeyond a b c d e =
    (((a <ℤ c) × (a <ℤ d) × (a <ℤ e)) × ((b <ℤ c) × (b <ℤ d) × (b <ℤ e)))
    ⊎ (((c <ℤ a) × (d <ℤ a) × (e <ℤ a)) × ((c <ℤ b) × (d <ℤ b) × (e <ℤ b)))
