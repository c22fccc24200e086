use Rattle.std.proofs.Common.{◌+◌, ◌*◌, ◌<◌, ℕ, length, arith}
use Rattle.track_held.specs.declared.band_table.BandTable.{BandTable}
use Rattle.track_held.proofs.Tables.{in_layers, as_many}
use Rattle.track_held.proofs.band_table.BandTable.place_of.Goals as goal

-- the place of a cell is that of a band
is_place : (t : BandTable) (i j k : ℕ) → i < t.cells.nx → j < t.cells.ny → k < t.cells.nz → i + t.cells.nx * (j + t.cells.ny * k) < length t.bands.now
is_place t i j k hi hj hk = omega (arith, in_layers t.cells.nx t.cells.ny t.cells.nz i j k hi hj hk, as_many t.cells t.bands.now t.faultless)

pub returns-clause-within : goal.returns-clause-within
returns-clause-within c = is_place c.args.self.now c.cell_along-i.result c.cell_along-j.result c.cell_along-k.result c.cell_along-i.ensures.within c.cell_along-j.ensures.within c.cell_along-k.ensures.within

pub overflow_add-result-2 : goal.overflow_add-result-2
overflow_add-result-2 c =
    let within = is_place c.args.self.now c.cell_along-i.result c.cell_along-j.result c.cell_along-k.result c.cell_along-i.ensures.within c.cell_along-j.ensures.within c.cell_along-k.ensures.within in
    omega (arith, within)

pub overflow_mul-result-2 : goal.overflow_mul-result-2
overflow_mul-result-2 c =
    let within = is_place c.args.self.now c.cell_along-i.result c.cell_along-j.result c.cell_along-k.result c.cell_along-i.ensures.within c.cell_along-j.ensures.within c.cell_along-k.ensures.within in
    omega (arith, within)
