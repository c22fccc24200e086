use Rattle.std.proofs.Common.{◌≡◌, ◌+◌, ◌-◌, ◌<◌, length, arith}
use Rattle.box_tree.proofs.Trees.{Has-trans, skip_tree, hull_step}
use Rattle.box_tree.proofs.construction.hull.Goals as goal

pub loop-i-preserved : goal.loop-i-preserved
loop-i-preserved c =
    let ns = c.args.nodes.now in
    let k = c.loop-i.i in
    let n = c.index-nodes-i-in-loop-i.result in
    let one : k ≡ k - 1 + 1 = omega arith in
    let inside : k - 1 < length ns = omega arith in
    record {
      within = omega arith;
      tree = skip_tree ns k (k - 1) n one inside c.index-nodes-i-in-loop-i.is c.loop-i.invariant.tree;
      rest = λ f has h. c.loop-i.invariant.rest f (Has-trans f c.united-e.result c.loop-i.e has c.united-e.ensures.first)
          (hull_step ns k (k - 1) n one inside c.index-nodes-i-in-loop-i.is c.loop-i.invariant.tree c.args.from f (omega arith) (Has-trans f c.united-e.result n.bound has c.united-e.ensures.second) h);
    }
