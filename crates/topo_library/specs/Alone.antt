-- The two tests of five points alone: an edge, and a triangle.
use Rattle.std.specs.Prelude.{◌≡◌, ◌≤◌, ◌⊎◌, ℕ}
use Rattle.grid_base.specs.declared.TheConstants.{BOX, DEPTH_MAX}
use Rattle.grid_base.specs.Components.{FitWithin}
use Rattle.grid_base.specs.declared.Positions.{Positions}
use Rattle.track_held.specs.declared.given.GivenPoint.{GivenPoint}
use Rattle.track_held.specs.Given.{position_in}
use Rattle.topo_library.specs.declared.alone.TopoFive.{TopoFive}

-- no coordinate's size is above `BOX`
abbrev pub IsInBox : GivenPoint → Type 0
IsInBox p = FitWithin BOX p.x p.y p.z

-- where five points stand
abbrev pub places : TopoFive → Positions
places f = record {
  a = position_in f.a;
  b = position_in f.b;
  c = position_in f.c;
  d = position_in f.d;
  e = position_in f.e;
}

-- each of them is in the box
pub record AreInBox (f : TopoFive) : Type 0 where
  pub a : IsInBox f.a
  pub b : IsInBox f.b
  pub c : IsInBox f.c
  pub d : IsInBox f.d
  pub e : IsInBox f.e

-- a motion from five points to five points may be asked to this depth
pub record CanPass (depth : ℕ) (start end : TopoFive) : Type 0 where
  pub deep : depth ≤ DEPTH_MAX
  pub from : AreInBox start
  pub to : AreInBox end

-- What a code says of a call that tests whether something holds: 3, and nothing is told, exactly
-- where it may not be asked, and else 0, and 1 is told where it holds, and 0 where it does not.
pub record HasTested (may_be_asked holds : Type 0) (before after code : ℕ) : Type 0 where
  pub beyond : ¬ may_be_asked → (code ≡ 3) × (after ≡ before)
  pub told : may_be_asked → (code ≡ 0) × (((after ≡ 1) × holds) ⊎ ((after ≡ 0) × ¬ holds))
