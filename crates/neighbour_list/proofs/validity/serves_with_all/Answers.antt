use Rattle.std.proofs.Common.{◌∙◌}
use Rattle.neighbour_list.proofs.LeftOut.{all_serve_by_places}
use Rattle.neighbour_list.proofs.validity.serves_with_all.Goals as goal

pub returns : goal.returns
returns c = λ yes. all_serve_by_places c.args.boxes.now c.args.ways.now c.requires c.args.skin c.args.a.now c.deref.result.now
    (c.deref.ensures.value ∙ c.in_ok-overlapping_apart.ensures.ok) (c.drifts_as_all_at.ensures yes)
