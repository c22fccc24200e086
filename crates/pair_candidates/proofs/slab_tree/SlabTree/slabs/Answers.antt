use Rattle.pair_candidates.proofs.SlabTrees.{face_slabs, halves_slabs}
use Rattle.pair_candidates.proofs.slab_tree.SlabTree.slabs.Goals as goal

pub returns-in-Face : goal.returns-in-Face
returns-in-Face c = λ across faces i sound place. face_slabs across faces c.args.self.now i sound place c.in-Face.s _ c.in-Face.is

pub returns-in-Halves : goal.returns-in-Halves
returns-in-Halves c = λ across faces i sound place. halves_slabs across faces c.args.self.now i sound place c.in-Halves.s _ _ _ _ c.in-Halves.is
