use Rattle.std.proofs.Common.{◌≤◌, ◌+◌}
use Rattle.pass_run.specs.Results.{stage, exact_answer}
use Rattle.pass_run.proofs.Turning.{IsTaking}
use Rattle.pass_run.proofs.passes.take_turns.Given as goal

-- the candidates so far have had their turns
abbrev pub invariant-loop-what : goal.invariant-loop-what
invariant-loop-what g l =
    let surface = g.S.Surface in
    let around = g.O.Outside.around in
    let first = stage surface.mesh surface.kept around l.fn.mesh l.fn.outside in
    let now = stage surface.mesh surface.kept around l.mesh l.outside in
    let t = l.turns in
    record {
      taking : IsTaking (g.C.Chooses.may_choose t.by.now) (exact_answer t.depth) t.grouped first now l.candidates l.what-index l.count;
      sum : l.count.done + l.count.refused ≤ l.what-index;
    }
