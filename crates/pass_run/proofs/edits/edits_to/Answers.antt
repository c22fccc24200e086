use Rattle.std.proofs.Common.{◌≤◌, ◌+◌, ◌++◌, ◌∷◌, [], List, length, drop, refl, ap, sym, ◌∙◌, arith}
use Rattle.std.proofs.lemmas.Result.{err_from_is_err_and}
use Rattle.grid_decided.specs.Decided.{meets_exactly}
use Rattle.mesh_base.specs.Mesh.{Mesh}
use Rattle.log_text.specs.declared.LogLine.{LogLine}
use Rattle.pass_run.specs.Edits.{edits_exactly}
use Rattle.pass_run.specs.PassLines.{line_of, answer_by, lines_from}
use Rattle.pass_run.proofs.Asking.{none_left}
use Rattle.pass_run.proofs.Edited.{first_left, next_line, told_over, told_all, told_on, edits_end, lines_keep}
use Rattle.pass_run.proofs.Stages.{so_far_none, so_far_over, so_far_all, step_done, step_in_part}
use Rattle.pass_run.proofs.edits.edits_to.Goals as goal

pub loop-what-init : goal.loop-what-init
loop-what-init g c = record {
  so_far = so_far_none _ c.args.terms.grouped _ _ _ refl c.requires.closed c.requires.clear c.no_edit-count.ensures.done c.no_edit-count.ensures.refused;
  told = ap (λ l. c.args.answers.now ++ l) (first_left meets_exactly c.args.terms.depth c.args.terms.grouped (g.S.Surface.mesh c.args.mesh.now) c.args.asked.now c.no_edit-count.result.refused c.no_edit-count.ensures.refused);
  sum = omega (arith, c.no_edit-count.ensures.done, c.no_edit-count.ensures.refused);
}

pub returns-then-is_over-clause-takes : goal.returns-then-is_over-clause-takes
returns-then-is_over-clause-takes g c =
    so_far_over _ _ c.args.terms.grouped _ _ c.loop-what.count c.loop-what.invariant.so_far (sym c.is_over.ensures ∙ c.if-is_over.true)

pub returns-then-is_over-clause-answers : goal.returns-then-is_over-clause-answers
returns-then-is_over-clause-answers g c =
    told_over meets_exactly c.args.terms.depth c.args.terms.grouped (g.S.Surface.mesh c.loop-what.mesh) _ _ _ _ (sym c.is_over.ensures ∙ c.if-is_over.true) c.loop-what.invariant.told

pub returns-then-is_over-clause-mesh : goal.returns-then-is_over-clause-mesh
returns-then-is_over-clause-mesh g c =
    edits_end c.args.terms c.args.asked.now _ _ _ (returns-then-is_over-clause-takes g c)

pub take_edit-requires-clause-closed : goal.take_edit-requires-clause-closed
take_edit-requires-clause-closed g c = c.loop-what.invariant.so_far.keeps.closed

pub take_edit-requires-clause-clear : goal.take_edit-requires-clause-clear
take_edit-requires-clause-clear g c = c.loop-what.invariant.so_far.keeps.clear

pub returns-in_err-more-clause-takes : goal.returns-in_err-more-clause-takes
returns-in_err-more-clause-takes g c =
    let p = err_from_is_err_and c.from_residual.result c.from_residual.ensures.1 in
    let m = g.S.Surface.mesh c.loop-what.mesh in
    let rules = edits_exactly c.args.terms in
    let what = c.what-item.result in
    let rest : Mesh → List LogLine = λ n. lines_from rules n (drop (c.loop-what.what-index + 1) c.args.asked.now) in
    rw (p.1, p.2) (step_in_part _ _ _ c.args.terms.grouped _ (line_of what (answer_by rules m what) ∷ []) _ rest c.loop-what.count
    (next_line meets_exactly c.args.terms.depth c.args.terms.grouped m c.args.asked.now c.loop-what.what-index what c.loop-what-test.true c.what-item.is)
    c.loop-what.invariant.so_far (sym c.is_over.ensures ∙ c.if-is_over.false) c.in_err-more.field-0.0 c.in_err-more.ensures.takes)

pub loop-what-preserved : goal.loop-what-preserved
loop-what-preserved g c =
    let m = g.S.Surface.mesh c.loop-what.mesh in
    let rules = edits_exactly c.args.terms in
    let what = c.what-item.result in
    let going = sym c.is_over.ensures ∙ c.if-is_over.false in
    let takes = c.in_ok-more.ensures.takes in
    let rest : Mesh → List LogLine = λ n. lines_from rules n (drop (c.loop-what.what-index + 1) c.args.asked.now) in
    record {
      so_far = step_done _ _ _ c.args.terms.grouped _ (line_of what (answer_by rules m what) ∷ []) _ rest c.loop-what.count
          (next_line meets_exactly c.args.terms.depth c.args.terms.grouped m c.args.asked.now c.loop-what.what-index what c.loop-what-test.true c.what-item.is)
          c.loop-what.invariant.so_far going c.in_ok-more.more c.sum-count.result takes c.sum-count.ensures.done c.sum-count.ensures.refused;
      told = told_on meets_exactly c.args.terms.depth c.args.terms.grouped m _ c.args.asked.now c.loop-what.what-index what c.loop-what-test.true c.what-item.is _ _ _ c.loop-what.count.refused c.in_ok-more.more.refused c.sum-count.result.refused
          going takes.refused c.sum-count.ensures.refused takes.said.0 c.in_ok-more.ensures.answers c.loop-what.invariant.told;
      sum = omega (arith, c.in_ok-more.ensures.sum, c.loop-what.invariant.sum, c.sum-count.ensures.done, c.sum-count.ensures.refused);
    }

pub returns-clause-takes : goal.returns-clause-takes
returns-clause-takes g c =
    so_far_all _ _ c.args.terms.grouped _ _ c.loop-what.count c.loop-what.invariant.so_far
    (ap (lines_from (edits_exactly c.args.terms) (g.S.Surface.mesh c.loop-what.mesh)) (none_left c.args.asked.now c.loop-what.what-index (omega (arith, c.loop-what-test.false))))

pub returns-clause-answers : goal.returns-clause-answers
returns-clause-answers g c =
    let end : length c.args.asked.now ≤ c.loop-what.what-index = omega (arith, c.loop-what-test.false) in
    told_all meets_exactly c.args.terms.depth c.args.terms.grouped (g.S.Surface.mesh c.loop-what.mesh) c.args.asked.now c.loop-what.what-index _ _ _ end c.loop-what.invariant.told

pub returns-clause-mesh : goal.returns-clause-mesh
returns-clause-mesh g c =
    edits_end c.args.terms c.args.asked.now _ _ _ (returns-clause-takes g c)

pub returns-clause-motions : goal.returns-clause-motions
returns-clause-motions g c = lines_keep c.args.terms (g.S.Surface.mesh c.args.mesh.now) c.args.asked.now (g.met.S.Surface.sound c.args.mesh.now) c.requires.closed c.requires.clear

pub returns-then-is_over-clause-motions : goal.returns-then-is_over-clause-motions
returns-then-is_over-clause-motions g c = lines_keep c.args.terms (g.S.Surface.mesh c.args.mesh.now) c.args.asked.now (g.met.S.Surface.sound c.args.mesh.now) c.requires.closed c.requires.clear

pub returns-in_err-more-clause-motions : goal.returns-in_err-more-clause-motions
returns-in_err-more-clause-motions g c = lines_keep c.args.terms (g.S.Surface.mesh c.args.mesh.now) c.args.asked.now (g.met.S.Surface.sound c.args.mesh.now) c.requires.closed c.requires.clear
