use Rattle.std.proofs.Common.{refl, sym, subst}
use Rattle.std.specs.Prelude.{IfSome}
use Rattle.pair_candidates.specs.Slabs.{EdgeGoesWith, AreStill}
use Rattle.pair_candidates.proofs.Asked.{on_ok}
use Rattle.pair_candidates.proofs.Still.{still_tell_all}
use Rattle.pair_candidates.proofs.neighbours.near_in_crowd.Goals as goal

pub returns-in-Some-clause-near : goal.returns-in-Some-clause-near
returns-in-Some-clause-near g c =
    let e = c.args.e.now in
    let faces = c.args.scan.now.faces.now in
    let frame = c.look_for_still.new.view.frame in
    let edge = subst (λ f. EdgeGoesWith f e) (sym c.in_ok-look_for_still.ensures.frame) (c.if-is_served.ensures.edge refl) in
    let still = subst (λ o. IfSome o (AreStill frame faces)) c.in-Some.is c.in_ok-look_for_still.ensures.view.still in
    on_ok c.near.result
    (λ found. still_tell_all (g.A.PairTest.test c.args.scan.now.test.now) g.A.PairTest.what frame e faces c.in-Some.still c.near.new.into.items (c.if-is_served.ensures.test refl) edge still (found frame faces still))
    c.near.ensures
