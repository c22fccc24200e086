-- A few cells in a row, in rows, in layers.
use Rattle.std.specs.Prelude.{ℕ, ◌≡◌, ◌+◌, ◌*◌, ◌<◌, ◌≤◌}
use Rattle.grid_base.specs.declared.TheConstants.{EXTENT_MAX}
use Rattle.cell_grid.specs.declared.TheConstants.{CELLS_MAX}

-- there are cells along each axis, so many in all, and none is past the greatest place
pub record IsUsable (x y z nx ny nz count : ℕ) : Type 0 where
  pub some_wide : 0 < nx
  pub some_deep : 0 < ny
  pub some_tall : 0 < nz
  pub counted : count ≡ nx * (ny * nz)
  pub few : count ≤ CELLS_MAX
  pub x_fits : x + nx ≤ 2 * EXTENT_MAX + 2
  pub y_fits : y + ny ≤ 2 * EXTENT_MAX + 2
  pub z_fits : z + nz ≤ 2 * EXTENT_MAX + 2
