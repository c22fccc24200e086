-- How far vertices have drifted from their reference points.
use Rattle.std.specs.Prelude.{ℕ, List, pos, ◌+ℤ◌, ◌≤ℤ◌}
use Rattle.std.specs.List.{Contains}
use Rattle.grid_base.specs.declared.Extent.{Extent}
use Rattle.grid_base.specs.Triples.{Triple, minus}
use Rattle.mesh_base.specs.Placements.{Placement}

-- from its reference point to where it stands now
abbrev pub drift : Placement → Placement → ℕ → Triple
drift at now v = minus (now v) (at v)

-- along each axis, the drifts of two vertices differ by at most the skin
pub record DiffersWithin (skin : ℕ) (s t : Triple) : Type 0 where
  pub x : s.x ≤ℤ (t.x +ℤ pos skin)
  pub y : s.y ≤ℤ (t.y +ℤ pos skin)
  pub z : s.z ≤ℤ (t.z +ℤ pos skin)

-- along each axis, the greatest and the least drift of these vertices differ by at most the skin
abbrev pub DriftAlike : ℕ → Placement → Placement → List ℕ → Type 0
DriftAlike skin at now vs =
    (u v : ℕ) → Contains vs u → Contains vs v → DiffersWithin skin (drift at now u) (drift at now v)

-- no side of the box is longer than the skin
pub record IsNarrow (skin : ℕ) (box : Extent) : Type 0 where
  pub x : box.high.x ≤ℤ (box.low.x +ℤ pos skin)
  pub y : box.high.y ≤ℤ (box.low.y +ℤ pos skin)
  pub z : box.high.z ≤ℤ (box.low.z +ℤ pos skin)
