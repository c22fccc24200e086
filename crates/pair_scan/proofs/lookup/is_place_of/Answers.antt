use Rattle.std.proofs.Common.{length, refl, sym, ◌∙◌}
use Rattle.std.proofs.lemmas.Bool.{eqb-true}
use Rattle.std.proofs.lemmas.Option.{slice_get_read}
use Rattle.pair_scan.proofs.IdSearch.{found}
use Rattle.pair_scan.proofs.ShiftSearch.{id_of, past}
use Rattle.pair_scan.proofs.lookup.is_place_of.Goals as goal

pub returns-in-Some : goal.returns-in-Some
returns-in-Some c = λ yes.
    let by = c.args.by.now in
    let s = c.in-Some.s.now in
    let place = c.args.place in
    let at = c.in-Some.ensures.lookup in
    let read = slice_get_read by (length by) place s refl at.3.0 at.1 in
    (s, read, found id_of past (λ v. refl) by c.args.v place s c.requires read (eqb-true s.v c.args.v (sym c.eq.ensures ∙ yes)))
