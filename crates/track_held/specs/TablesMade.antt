-- A table that is made of cells and their bands.
use Rattle.std.specs.Prelude.{◌≡◌, List, Some, None}
use Rattle.track_held.specs.declared.band_table.BandTable.{BandTable}
use Rattle.track_held.specs.declared.band_table.Cells.{Cells}
use Rattle.track_held.specs.declared.band_table.GivenBand.{GivenBand}
use Rattle.track_held.specs.declared.band_table.TableFault.{TableFault}
use Rattle.track_held.specs.Tables.{table_fault}

-- the table has these bands for these cells, which have no fault
abbrev pub IsTableOf : Cells → List GivenBand → BandTable → Type 0
IsTableOf cells bands table =
    (table_fault cells bands ≡ None) × (table.cells ≡ cells) × (table.bands.now ≡ bands)

-- it is their first fault
abbrev pub IsTableFault : Cells → List GivenBand → TableFault → Type 0
IsTableFault cells bands why = table_fault cells bands ≡ Some why
