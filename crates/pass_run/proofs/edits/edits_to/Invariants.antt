use Rattle.std.proofs.Common.{◌≡◌, ◌≤◌, ◌+◌, ◌&&◌, ◌++◌, nat_lt, drop}
use Rattle.grid_decided.specs.Decided.{meets_exactly}
use Rattle.pass_run.specs.Edits.{edits_exactly, answers_from}
use Rattle.pass_run.specs.PassLines.{lines_from}
use Rattle.pass_run.specs.Results.{stage}
use Rattle.pass_run.proofs.Edited.{answers_left}
use Rattle.pass_run.proofs.Stages.{SoFar}
use Rattle.pass_run.proofs.edits.edits_to.Given as goal

-- the lines written and those of what is left are all, and so are the answers
abbrev pub invariant-loop-what : goal.invariant-loop-what
invariant-loop-what g l =
    let surface = g.S.Surface in
    let around = g.O.Outside.around in
    let first = stage surface.mesh surface.kept around l.fn.mesh l.fn.outside in
    let now = stage surface.mesh surface.kept around l.mesh l.outside in
    let rules = edits_exactly l.terms in
    let over = l.terms.grouped && nat_lt 0 l.count.refused in
    record {
      so_far : SoFar first now l.terms.grouped (lines_from rules now.mesh (drop l.what-index l.asked)) (lines_from rules first.mesh l.asked) l.count;
      told : l.answers ++ answers_left meets_exactly l.terms.depth l.terms.grouped over now.mesh (drop l.what-index l.asked) ≡ l.fn.answers ++ answers_from rules first.mesh l.asked;
      sum : l.count.done + l.count.refused ≤ l.what-index;
    }
