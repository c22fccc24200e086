use Rattle.std.proofs.Common.{◌≡◌, length}
use Rattle.pass_run.specs.VertexRims.{AreLinked}
use Rattle.pass_run.proofs.vertex_rims.are_linked.Given as goal

-- what is marked is linked
abbrev pub invariant-loop-round : goal.invariant-loop-round
invariant-loop-round l = record {
  long : length l.marks.items ≡ length l.rims;
  linked : AreLinked l.rims l.marks.items;
}
