use Rattle.std.proofs.Common.{◌≤◌, ◌+◌, drop}
use Rattle.edit_base.specs.declared.Asked.TheVariants as asked
use Rattle.pass_run.specs.Candidates.{all_pinches}
use Rattle.pass_run.specs.PassLines.{exactly, lines_from}
use Rattle.pass_run.specs.Results.{stage}
use Rattle.pass_run.proofs.AskedTurns.{asked_left}
use Rattle.pass_run.proofs.Stages.{SoFar}
use Rattle.pass_run.proofs.vertex_pass.take_vertices.Given as goal

-- the lines written, and those of the vertices that are left from the mesh as it is, are all
abbrev pub invariant-loop-v : goal.invariant-loop-v
invariant-loop-v g l =
    let surface = g.S.Surface in
    let around = g.O.Outside.around in
    let first = stage surface.mesh surface.kept around l.fn.mesh l.fn.outside in
    let now = stage surface.mesh surface.kept around l.mesh l.outside in
    record {
      so_far : SoFar first now l.terms.grouped (asked_left (λ v. asked.Pinch v) l.terms now.mesh (drop l.v-index l.v-items)) (lines_from (exactly l.terms) first.mesh (all_pinches first.mesh)) l.count;
      sum : l.count.done + l.count.refused ≤ l.v-index;
    }
