use Rattle.std.proofs.Common.{◌≡◌, ◌∙◌, ◌+◌, ◌-◌, ◌<◌, ◌++◌, length, sym, ap, arith}
use Rattle.box_tree.proofs.Trees.{skip_tree, skip_found}
use Rattle.box_tree.proofs.collection.collect_up_to.Goals as goal

pub loop-i-preserved-then-not-finds : goal.loop-i-preserved-then-not-finds
loop-i-preserved-then-not-finds c =
    let ns = c.args.nodes.now in
    let k = c.loop-i.i in
    let n = c.index-nodes-i.result in
    let one : k ≡ k - 1 + 1 = omega arith in
    let inside : k - 1 < length ns = omega arith in
    record {
      within = omega arith;
      few = c.loop-i.invariant.few;
      tree = skip_tree ns k (k - 1) n one inside c.index-nodes-i.is c.loop-i.invariant.tree;
      all = ap (λ xs. c.loop-i.into.items ++ xs) (sym (skip_found ns k (k - 1) n one inside c.index-nodes-i.is c.loop-i.invariant.tree c.args.q.now (sym c.if-not-finds.ensures))) ∙ c.loop-i.invariant.all;
    }
