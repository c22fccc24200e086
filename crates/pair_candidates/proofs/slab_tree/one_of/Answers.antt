use Rattle.std.proofs.Common.{length, refl}
use Rattle.std.proofs.lemmas.Option.{slice_get_read}
use Rattle.pair_candidates.proofs.SlabTrees.{of_one, its_box}
use Rattle.pair_candidates.proofs.slab_tree.one_of.Goals as goal

pub returns-in-Some-get : goal.returns-in-Some-get
returns-in-Some-get c =
    let g = c.args.g.now in
    let i = c.args.i in
    let f = c.in-Some.f.now in
    let at = c.in-Some-get.at.now in
    let found = c.in-Some.ensures.lookup in
    let there = c.in-Some-get.ensures.lookup in
    let face = slice_get_read g.faces.now (length g.faces.now) i f refl found.3.0 found.1 in
    let box = slice_get_read g.boxes.now (length g.boxes.now) i at refl there.3.0 there.1 in
    of_one g.across.now g.faces.now c.of.result i f face (c.of.ensures g.frame.now (its_box g.frame.now g.faces.now g.boxes.now i f at c.requires face box))
