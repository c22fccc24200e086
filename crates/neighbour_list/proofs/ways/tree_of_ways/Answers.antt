use Rattle.std.proofs.Common.{ap, ◌∙◌}
use Rattle.std.specs.Prelude.{slice_get}
use Rattle.pair_paths.proofs.Boxed.{boxes_by_place}
use Rattle.neighbour_list.specs.Clusters.{IsWayBox}
use Rattle.neighbour_list.proofs.ways.tree_of_ways.Goals as goal

pub returns : goal.returns
returns c = boxes_by_place IsWayBox c.args.boxes.now c.in_ok-ways.ways.items c.in_ok-tree.tree c.in_ok-ways.ensures
    (λ i. c.in_ok-tree.ensures i ∙ ap (λ bs. slice_get bs i) c.deref.ensures.value)
