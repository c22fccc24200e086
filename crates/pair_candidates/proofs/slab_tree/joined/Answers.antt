use Rattle.pair_candidates.proofs.SlabTrees.{joined_sound}
use Rattle.pair_candidates.proofs.slab_tree.joined.Goals as goal

pub returns-clause-sound : goal.returns-clause-sound
returns-clause-sound c = λ across faces. joined_sound across faces c.args.first c.args.second c.in_ok-first.first.value c.in_ok-second.second.value c.in_ok-first.ensures.ok c.in_ok-second.ensures.ok c.slabs.result c.slabs-2.result c.united-slabs.result
    (c.slabs.ensures across faces) (c.slabs-2.ensures across faces) (c.united-slabs.ensures.first across) (c.united-slabs.ensures.second across)
