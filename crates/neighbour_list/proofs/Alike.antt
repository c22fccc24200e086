-- Vertices whose drifts are in a narrow box drift alike.
use Rattle.std.proofs.Common.{ℕ, List, ℤ, pos, ◌+ℤ◌, ◌≤ℤ◌, arith}
use Rattle.std.specs.List.{All}
use Rattle.std.proofs.lemmas.Int.{ints}
use Rattle.std.proofs.lemmas.List.Elements.{All-contains}
use Rattle.grid_base.specs.declared.Extent.{Extent}
use Rattle.grid_base.specs.Extents.{IsIn}
use Rattle.mesh_base.specs.Placements.{Placement}
use Rattle.neighbour_list.specs.Drift.{drift, DriftAlike, IsNarrow}

apart_at_most : (skin : ℕ) (a b low high : ℤ) → a ≤ℤ high → low ≤ℤ b → high ≤ℤ (low +ℤ pos skin) → a ≤ℤ (b +ℤ pos skin)
apart_at_most skin a b low high h i j = omega (arith, ints)

pub alike : (skin : ℕ) (at now : Placement) (ids : List ℕ) (box : Extent) → IsNarrow skin box → All (λ v. IsIn box (drift at now v)) ids → DriftAlike skin at now ids
alike skin at now ids box narrow all u v hu hv =
    let p = All-contains (λ x. IsIn box (drift at now x)) ids u all hu in
    let q = All-contains (λ x. IsIn box (drift at now x)) ids v all hv in
    record {
      x = apart_at_most skin (drift at now u).x (drift at now v).x box.low.x box.high.x p.x_high q.x_low narrow.x;
      y = apart_at_most skin (drift at now u).y (drift at now v).y box.low.y box.high.y p.y_high q.y_low narrow.y;
      z = apart_at_most skin (drift at now u).z (drift at now v).z box.low.z box.high.z p.z_high q.z_low narrow.z;
    }
