use Rattle.std.proofs.Common.{ℕ, get_or}
use Rattle.std.specs.Prelude.{slice_get, IfSome}
use Rattle.std.proofs.lemmas.List.{get_or_default}
use Rattle.std.proofs.lemmas.List.Elements.{AllWithin-more, at_read}
use Rattle.neighbour_list.specs.Clusters.{BoxesServe}
use Rattle.neighbour_list.proofs.validity.drifts_as_all_at.Goals as goal

pub loop-k-preserved : goal.loop-k-preserved
loop-k-preserved c =
    let serves : ℕ → Type 0 = λ k. IfSome (slice_get c.args.boxes.now k) (BoxesServe c.args.skin c.args.a.now) in
    let places = c.args.places.now in
    let i = c.loop-k.k-index in
    let k = get_or places i 0 in
    AllWithin-more serves places 0 i c.loop-k.invariant
    (at_read places serves i k c.loop-k-test.true (get_or_default places i 0 k c.loop-k-test.true) (c.drifts_as_one_at.ensures c.if-not-drifts_as_one_at.false))
