use Rattle.std.proofs.Common.{◌≡◌, ◌≤◌, ◌+◌, ◌*◌, ◌^◌, drop}
use Rattle.pass_run.specs.Candidates.{candidates}
use Rattle.pass_run.specs.PassLines.{exactly, lines_from}
use Rattle.pass_run.specs.Results.{stage}
use Rattle.pass_run.proofs.NearPairs.{pairs_left}
use Rattle.pass_run.proofs.Stages.{SoFar}
use Rattle.pass_run.proofs.passes.take_pairs.Given as goal

-- the lines written, and those of the pairs that are left from the mesh as it is, are all; and its points are those of the start
abbrev pub invariant-loop-i : goal.invariant-loop-i
invariant-loop-i g l =
    let surface = g.S.Surface in
    let around = g.O.Outside.around in
    let first = stage surface.mesh surface.kept around l.fn.mesh l.fn.outside in
    let now = stage surface.mesh surface.kept around l.mesh l.outside in
    record {
      so_far : SoFar first now l.terms.grouped (pairs_left (exactly l.terms) now.mesh (drop l.i l.edges)) (lines_from (exactly l.terms) first.mesh (candidates first.mesh l.terms.kind)) l.count;
      points : now.mesh.points ≡ first.mesh.points;
      sum : l.count.done + l.count.refused ≤ l.i * 2 ^ 26;
    }
