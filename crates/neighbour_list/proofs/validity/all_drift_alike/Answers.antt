use Rattle.neighbour_list.proofs.Held.{alike_in}
use Rattle.neighbour_list.proofs.validity.all_drift_alike.Goals as goal

pub returns : goal.returns
returns c = λ yes. alike_in c.args.skin c.united_from-all.result c.args.boxes.now (c.is_narrow.ensures c.if-not-is_narrow.false) (c.is_narrow-2.ensures yes) c.united_from-all.ensures
