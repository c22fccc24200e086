use Rattle.std.proofs.Common.{refl, sym}
use Rattle.pair_scan.proofs.IdSearch.{found_at, found_inside, absent_between}
use Rattle.edit_collapse.proofs.IdSearch.{id_of, past, is_there, is_absent}
use Rattle.edit_collapse.proofs.cancellation.has_id.Goals as goal

pub returns-in-Some : goal.returns-in-Some
returns-in-Some c =
    let es = c.args.faces.now in
    let at = c.in-Some.ensures.lookup in
    sym (is_there c.args.f es c.in-Some._e.now (found_at id_of past (λ v. refl) es c.args.f c.requires _ c.in-Some._e.now c.in-Ok.ensures at.3.0 at.1))

pub returns-in-None : goal.returns-in-None
returns-in-None c = absurd (found_inside id_of past (λ v. refl) c.args.faces.now c.args.f c.requires _ c.in-Ok.ensures c.in-None.ensures.lookup.3)

pub returns-in-Err : goal.returns-in-Err
returns-in-Err c = sym (is_absent c.args.f c.args.faces.now (absent_between id_of past (λ v. refl) c.args.faces.now c.args.f c.requires _ c.in-Err.ensures))
