use Rattle.std.proofs.Common.{refl, arith}
use Rattle.pair_scan.proofs.IdSearch.{ids_in_order}
use Rattle.motion_proof.proofs.MoveSearch.{id_of, past}
use Rattle.motion_proof.proofs.moves_in_order.are_in_order.Goals as goal

pub returns : goal.returns
returns c = λ _. ids_in_order id_of past (λ v. refl) c.args.moves.now (λ k d lt. c.loop-i.invariant k d (omega arith))
