use Rattle.obj_text.proofs.Renumbered.{lists_give_renumbered_lem, stays_closed_lem, stays_clear_lem}
use Rattle.obj_text.proofs.RanksInOrder.{keeps_order_lem}
use Rattle.obj_text.proofs.law.written_stays_good.Goals as goal

pub returns : goal.returns
returns c = record { renumbered = lists_give_renumbered_lem; closed = stays_closed_lem; clear = stays_clear_lem; order = keeps_order_lem }
