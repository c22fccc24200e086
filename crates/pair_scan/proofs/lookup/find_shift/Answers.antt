use Rattle.std.proofs.Common.{ap, refl, sym}
use Rattle.std.specs.Option.{option_map}
use Rattle.pair_scan.proofs.IdSearch.{found_at, found_inside, absent_between}
use Rattle.pair_scan.proofs.ShiftSearch.{id_of, past}
use Rattle.pair_scan.proofs.lookup.find_shift.Goals as goal

pub returns-in-Some : goal.returns-in-Some
returns-in-Some c = sym (ap (option_map (λ s. s.by)) (found_at id_of past (λ v. refl) c.args.by.now c.args.v c.requires.rising _ c.in-Some.s.now c.in-Ok.ensures c.in-Some.ensures.lookup.3.0 c.in-Some.ensures.lookup.1))

pub returns-in-None : goal.returns-in-None
returns-in-None c = absurd (found_inside id_of past (λ v. refl) c.args.by.now c.args.v c.requires.rising _ c.in-Ok.ensures c.in-None.ensures.lookup.3)

pub returns-in-Err : goal.returns-in-Err
returns-in-Err c = sym (ap (option_map (λ s. s.by)) (absent_between id_of past (λ v. refl) c.args.by.now c.args.v c.requires.rising _ c.in-Err.ensures))
