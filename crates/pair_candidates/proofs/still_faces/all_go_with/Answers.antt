use Rattle.std.proofs.Common.{◌<◌, length, refl, arith}
use Rattle.std.proofs.lemmas.Option.{slice_get_within}
use Rattle.pair_candidates.proofs.SlabTrees.{one_goes}
use Rattle.pair_candidates.proofs.still_faces.all_go_with.Goals as goal

pub loop-f-init : goal.loop-f-init
loop-f-init c = λ k f lt at. absurd (omega arith)

pub loop-f-preserved : goal.loop-f-preserved
loop-f-preserved c = one_goes c.args.frame.now c.args.faces.now c.loop-f.f-index c.f-item.result c.loop-f-test.true c.f-item.is (c.if-not-face_goes_with.ensures refl) c.loop-f.invariant

pub returns : goal.returns
returns c = λ yes i f at. let within : i < length c.args.faces.now = slice_get_within c.args.faces.now i f at in c.loop-f.invariant i f (omega arith) at
