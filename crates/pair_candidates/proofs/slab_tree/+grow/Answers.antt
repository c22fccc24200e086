use Rattle.pair_candidates.proofs.SlabTrees.{both_ok, of_both}
use Rattle.pair_candidates.proofs.slab_tree.+grow.Goals as goal

pub one_of-requires : goal.one_of-requires
one_of-requires t c = c.requires

pub returns : goal.returns
returns t c =
    let across = c.args.g.now.across.now in
    let faces = c.args.g.now.faces.now in
    both_ok c.joined_if.result
    (λ tree sound places. of_both across faces c.split_at.result.0.now c.split_at.result.1.now c.args.places.now c.in_ok-first.first c.in_ok-second.second tree c.split_at.ensures.by_index.0 c.in_ok-first.ensures c.in_ok-second.ensures (sound across faces) places)
    c.joined_if.ensures.sound c.joined_if.ensures.places
