use Rattle.mesh_base.proofs.NearReading.{meets-read, misses-x, misses-y}
use Rattle.mesh_base.proofs.near.box_meets.Goals as goal

pub returns-then-not-reach_along : goal.returns-then-not-reach_along
returns-then-not-reach_along c = let a = c.args in misses-x a.at.now a.p a.q a.r c.requires.p_fits c.requires.q_fits c.requires.r_fits c.if-not-reach_along.ensures

pub returns-then-not-reach_along-2 : goal.returns-then-not-reach_along-2
returns-then-not-reach_along-2 c =
    let a = c.args in misses-y a.at.now a.p a.q a.r c.requires.p_fits c.requires.q_fits c.requires.r_fits c.if-not-reach_along.ensures c.if-not-reach_along-2.ensures

pub returns : goal.returns
returns c =
    let a = c.args in
    meets-read a.at.now a.p a.q a.r c.requires.p_fits c.requires.q_fits c.requires.r_fits c.reach_along-3.result c.if-not-reach_along.ensures c.if-not-reach_along-2.ensures c.reach_along-3.ensures
