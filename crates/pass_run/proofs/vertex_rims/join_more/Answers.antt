use Rattle.std.proofs.Common.{false, IsTrue, get_or, subst, ◌∙◌, arith}
use Rattle.std.proofs.lemmas.List.{length-set}
use Rattle.pass_run.specs.VertexRims.{IsLinked}
use Rattle.pass_run.proofs.RimChains.{mark_set}
use Rattle.pass_run.proofs.vertex_rims.join_more.Goals as goal
use Rattle.pass_run.proofs.vertex_rims.join_more.Goals.{then-not-index+then-is_beside, else-not-index}

pub loop-k-preserved : goal.loop-k-preserved
loop-k-preserved c =
    let rims = c.args.rims.now in
    let marks = c.loop-k.marks.items in
    let k = c.loop-k.k in
    elim c.if-not-index.branch [
      | then-not-index+then-is_beside w ↦
          let beside = w.is_beside.ensures w.if-is_beside.true in
          rw (w.marks-is) (record {
            long = length-set marks k _ ∙ c.loop-k.invariant.long;
            linked = mark_set rims marks k (omega (arith, c.loop-k-test.true, c.loop-k.invariant.long)) c.loop-k.invariant.linked (IsLinked.further (c.loop-k.invariant.linked beside.0 (subst (λ l. IsTrue (get_or l beside.0 false)) w.as_slice.ensures.value beside.1.0)) beside.1.1);
          })
      | else-not-index w ↦ rw (w.marks-is) (record { long = c.loop-k.invariant.long; linked = c.loop-k.invariant.linked })
    ]
