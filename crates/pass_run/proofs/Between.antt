-- A midpoint that is near has its cell between those of the corners of a box that has each near one.
use Rattle.std.proofs.Common.{◌≡◌, ℕ, ◌+◌, ◌*◌, ◌<◌, ◌≤◌, IsTrue, ◌&&◌, slice_get, nat_lt, ℤ, ◌≤ℤ◌, unsigned_abs, refl, sym, subst, arith}
use Rattle.std.specs.Prelude.{slice_index_or}
use Rattle.std.proofs.lemmas.Bool.{and_parts}
use Rattle.grid_base.specs.Triples.{Triple, minus}
use Rattle.grid_base.specs.Points.{is_within}
use Rattle.grid_base.specs.Extents.{IsIn}
use Rattle.grid_base.specs.declared.Extent.{Extent}
use Rattle.grid_base.specs.declared.TheConstants.{HALF_MAX, EXTENT_MAX}
use Rattle.cell_grid.specs.Cells.{place_along}
use Rattle.cell_grid.proofs.Shared.{place_along-mono}
use Rattle.pass_run.specs.declared.midpoint_cells.Cell.{Cell}
use Rattle.pass_run.specs.declared.midpoint_cells.EdgeTurn.{EdgeTurn}
use Rattle.pass_run.specs.MidpointCells.{nowhere, cell_of, cell_at, is_apart, is_wanted, AreWithin, HasEachNear, IsInBlock}

further : (a : ℤ) → unsigned_abs a ≤ HALF_MAX → unsigned_abs a ≤ EXTENT_MAX
further a h = omega arith

below_next : (a b c : ℕ) → a ≤ b → b ≡ c → a < c + 1
below_next a b c le e = omega (arith, le, e)

module _ (size : ℕ) (some : 0 < size) (t : EdgeTurn) (round : Extent) (within : AreWithin t.middles.now) (reaches : HasEachNear t.middle t.within round) (k : ℕ) (wanted : IsTrue (is_wanted t k)) where
  abbrev q : Triple
  q = slice_index_or t.middles.now k nowhere

  near : IsTrue (is_within (2 * t.within) (minus t.middle q))
  near = (and_parts (nat_lt t.place k) (is_within (2 * t.within) (minus t.middle q)) (and_parts (nat_lt t.place k && is_within (2 * t.within) (minus t.middle q)) (is_apart t.edge (slice_get t.edges.now k)) wanted).0).1

  inside : IsIn round q
  inside = reaches q (within k) near

  along : (a b : ℤ) → unsigned_abs a ≤ EXTENT_MAX → unsigned_abs b ≤ EXTENT_MAX → a ≤ℤ b → place_along size a ≤ place_along size b
  along a b p r h = place_along-mono size a b some p r h

  pub in_block : (low high : Cell) → low ≡ cell_of size round.low → high ≡ cell_of size round.high → IsInBlock low.x (high.x + 1) low high (cell_at size t.middles.now k)
  in_block low high low_is high_is =
      let o = round.ordered in
      let w = within k in
      let P : Cell → Cell → Type 0 = λ l h. IsInBlock l.x (h.x + 1) l h (cell_at size t.middles.now k) in
      subst (λ l. P l high) (sym low_is) (subst (λ h. P (cell_of size round.low) h) (sym high_is) (record {
        x_low = along round.low.x q.x o.low_fits.x_fits (further q.x w.x_fits) inside.x_low;
        x_high = below_next _ _ _ (along q.x round.high.x (further q.x w.x_fits) o.high_fits.x_fits inside.x_high) refl;
        y_low = along round.low.y q.y o.low_fits.y_fits (further q.y w.y_fits) inside.y_low;
        y_high = below_next _ _ _ (along q.y round.high.y (further q.y w.y_fits) o.high_fits.y_fits inside.y_high) refl;
        z_low = along round.low.z q.z o.low_fits.z_fits (further q.z w.z_fits) inside.z_low;
        z_high = below_next _ _ _ (along q.z round.high.z (further q.z w.z_fits) o.high_fits.z_fits inside.z_high) refl;
      }))
