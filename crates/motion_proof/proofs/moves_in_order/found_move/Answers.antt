use Rattle.std.proofs.Common.{refl, sym}
use Rattle.pair_scan.proofs.IdSearch.{found_at, found_inside, absent_between}
use Rattle.motion_proof.proofs.MoveSearch.{id_of, past}
use Rattle.motion_proof.proofs.moves_in_order.found_move.Goals as goal

pub returns-in-Some : goal.returns-in-Some
returns-in-Some c = sym (found_at id_of past (λ v. refl) c.args.moves.now c.args.v c.requires _ c.in-Some.m.now c.in-Ok.ensures c.in-Some.ensures.lookup.3.0 c.in-Some.ensures.lookup.1)

pub returns-in-None : goal.returns-in-None
returns-in-None c = absurd (found_inside id_of past (λ v. refl) c.args.moves.now c.args.v c.requires _ c.in-Ok.ensures c.in-None.ensures.lookup.3)

pub returns-in-Err : goal.returns-in-Err
returns-in-Err c = sym (absent_between id_of past (λ v. refl) c.args.moves.now c.args.v c.requires _ c.in-Err.ensures)
