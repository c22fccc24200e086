use Rattle.std.proofs.Common.{◌≡◌, ap, sym, ◌∙◌}
use Rattle.std.proofs.lemmas.Option.{slice_get-get_or}
use Rattle.std.specs.Option.{option_map}
use Rattle.std.specs.List.{slice_get}
use Rattle.track_held.specs.Tables.{band_in}
use Rattle.track_held.proofs.Tables.{gives_band}
use Rattle.track_held.proofs.band_table.BandTable.band_at.Goals as goal

pub returns-clause-band : goal.returns-clause-band
returns-clause-band c =
    let table = c.args.self.now in
    gives_band table.cells table.bands.now table.faultless c.args.p _
    (ap (λ k. option_map band_in (slice_get table.bands.now k)) (sym c.place_of.ensures.value) ∙ ap (option_map band_in) (slice_get-get_or table.bands.now c.place_of.result _ c.place_of.ensures.within))
