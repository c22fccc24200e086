use Rattle.std.proofs.Common.{length, refl}
use Rattle.std.proofs.lemmas.Option.{slice_get_read}
use Rattle.pair_scan.proofs.IdSearch.{found_at, found_inside, absent_between}
use Rattle.pair_scan.proofs.ShiftSearch.{id_of, past}
use Rattle.pair_scan.proofs.lookup.find_place.Goals as goal

pub returns-in-Some : goal.returns-in-Some
returns-in-Some c = (
  c.in-Some._s.now,
  slice_get_read c.args.by.now (length c.args.by.now) c.in-Ok.place c.in-Some._s.now refl c.in-Some.ensures.lookup.3.0 c.in-Some.ensures.lookup.1,
  found_at id_of past (λ v. refl) c.args.by.now c.args.v c.requires _ c.in-Some._s.now c.in-Ok.ensures c.in-Some.ensures.lookup.3.0 c.in-Some.ensures.lookup.1,
)

pub returns-in-None : goal.returns-in-None
returns-in-None c = absurd (found_inside id_of past (λ v. refl) c.args.by.now c.args.v c.requires _ c.in-Ok.ensures c.in-None.ensures.lookup.3)

pub returns-in-Err : goal.returns-in-Err
returns-in-Err c = absent_between id_of past (λ v. refl) c.args.by.now c.args.v c.requires _ c.in-Err.ensures
