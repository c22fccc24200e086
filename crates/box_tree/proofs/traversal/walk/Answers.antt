use Rattle.std.proofs.Common.{◌≡◌, ◌∙◌, ◌+◌, ◌-◌, ◌<◌, ◌++◌, length, sym, ap, arith}
use Rattle.box_tree.proofs.Trees.{skip_tree, skip_meeting}
use Rattle.box_tree.proofs.traversal.walk.Goals as goal

pub loop-i-preserved : goal.loop-i-preserved
loop-i-preserved c =
    let ns = c.args.nodes.now in
    let k = c.loop-i.i in
    let n = c.index-nodes-i.result in
    let one : k ≡ k - 1 + 1 = omega arith in
    let inside : k - 1 < length ns = omega arith in
    record {
      within = omega arith;
      tree = skip_tree ns k (k - 1) n one inside c.index-nodes-i.is c.loop-i.invariant.tree;
      all = ap (λ xs. c.loop-i.into.items ++ xs) (sym (skip_meeting ns k (k - 1) n one inside c.index-nodes-i.is c.loop-i.invariant.tree c.args.q.now (sym c.if-finds.ensures))) ∙ c.loop-i.invariant.all;
    }
