-- How far an edge's two ends and a triangle's three corners lie along a direction.
use Rattle.std.specs.Prelude.{ℤ, ◌⊎◌, pos, ◌<ℤ◌, ◌≤ℤ◌}
use Rattle.grid_base.specs.Triples.{Triple, dot}
use Rattle.grid_base.specs.declared.Positions.{Positions}
use Rattle.motion_test.specs.declared.heights.Heights.{Heights}
use Rattle.motion_test.specs.declared.side.Side.{Side}
use Rattle.motion_test.specs.declared.side.Side.TheVariants.{Below, Above}

-- the direction along x
abbrev pub axis_x : Triple
axis_x = record { x = pos 1; y = pos 0; z = pos 0 }

-- the direction along y
abbrev pub axis_y : Triple
axis_y = record { x = pos 0; y = pos 1; z = pos 0 }

-- the direction along z
abbrev pub axis_z : Triple
axis_z = record { x = pos 0; y = pos 0; z = pos 1 }

-- how far each of five positions is along a direction
abbrev pub heights_along : Triple → Positions → Heights
heights_along n f = record {
  a = dot n f.a;
  b = dot n f.b;
  c = dot n f.c;
  d = dot n f.d;
  e = dot n f.e;
}

-- two heights are strictly on a side of a third
abbrev pub AreOn : Side → ℤ → ℤ → ℤ → Type 0
AreOn Below a b c = (a <ℤ c) × (b <ℤ c)
AreOn Above a b c = (c <ℤ a) × (c <ℤ b)

-- the same, where they may be level with it
abbrev pub AreWeaklyOn : Side → ℤ → ℤ → ℤ → Type 0
AreWeaklyOn Below a b c = (a ≤ℤ c) × (b ≤ℤ c)
AreWeaklyOn Above a b c = (c ≤ℤ a) × (c ≤ℤ b)

-- both edge ends are strictly on a side of all three corners
pub record LieOn (side : Side) (h : Heights) : Type 0 where
  pub of_c : AreOn side h.a h.b h.c
  pub of_d : AreOn side h.a h.b h.d
  pub of_e : AreOn side h.a h.b h.e

-- the same, where they may be level with them
pub record LieWeaklyOn (side : Side) (h : Heights) : Type 0 where
  pub of_c : AreWeaklyOn side h.a h.b h.c
  pub of_d : AreWeaklyOn side h.a h.b h.d
  pub of_e : AreWeaklyOn side h.a h.b h.e

-- the edge is below at the start and at the end, or above at both
abbrev pub KeepApart : Heights → Heights → Type 0
KeepApart start end = (LieOn Below start × LieOn Below end) ⊎ (LieOn Above start × LieOn Above end)

-- the edge is weakly below at the start and below at the end, or weakly above and then above
abbrev pub TakeApart : Heights → Heights → Type 0
TakeApart start end =
    (LieWeaklyOn Below start × LieOn Below end) ⊎ (LieWeaklyOn Above start × LieOn Above end)
