use Rattle.std.proofs.Common.{false, IsTrue, length, get_or, sym, ap, subst, arith}
use Rattle.pass_run.specs.VertexRims.{IsLinked}
use Rattle.pass_run.proofs.vertex_rims.are_linked.Goals as goal

pub loop-round-init : goal.loop-round-init
loop-round-init c = record {
  long = c.in_ok-mark_first.ensures.long;
  linked = λ k marked. subst (IsLinked c.args.rims.now) (sym (c.in_ok-mark_first.ensures.first k marked)) IsLinked.first;
}

pub returns-then-are_marked : goal.returns-then-are_marked
returns-then-are_marked c told =
    let marks = c.loop-round.marks.items in
    let same = c.as_slice.ensures.value in
    let long = ap length same in
    record {
      some = omega (arith, c.loop-round-test.true);
      each = λ k low. c.loop-round.invariant.linked k (subst (λ l. IsTrue (get_or l k false)) same (c.are_marked.ensures c.if-are_marked.true k (omega (arith, low, long, c.loop-round.invariant.long))));
    }
