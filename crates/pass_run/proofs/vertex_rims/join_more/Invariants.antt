use Rattle.std.proofs.Common.{◌≡◌, length}
use Rattle.pass_run.specs.VertexRims.{AreLinked}
use Rattle.pass_run.proofs.vertex_rims.join_more.Given as goal

-- what is marked is linked
abbrev pub invariant-loop-k : goal.invariant-loop-k
invariant-loop-k l = record {
  long : length l.marks.items ≡ length l.fn.marks.items;
  linked : AreLinked l.rims l.marks.items;
}
