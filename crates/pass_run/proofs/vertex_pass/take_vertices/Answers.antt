use Rattle.std.proofs.Common.{ℕ, ◌+◌, List, drop, ap, sym, ◌∙◌, arith}
use Rattle.std.proofs.lemmas.Result.{err_from_is_err_and}
use Rattle.mesh_base.specs.Mesh.{Mesh}
use Rattle.edit_base.specs.declared.Asked.{Asked}
use Rattle.edit_base.specs.declared.Asked.TheVariants as asked
use Rattle.log_text.specs.declared.LogLine.{LogLine}
use Rattle.pass_run.specs.PassLines.{exactly, lines_of}
use Rattle.pass_run.proofs.AskedTurns.{asked_left, left_taken, so_far_skipped, none_asked_left}
use Rattle.pass_run.proofs.Stages.{nothing_yet, so_far_none, so_far_over, so_far_all, so_far_wanting, step_done, step_in_part}
use Rattle.pass_run.proofs.vertex_pass.take_vertices.Goals as goal
use Rattle.pass_run.proofs.vertex_pass.take_vertices.Goals.{then-may+else-is_over+in_ok-more, else-may}

abbrev pinch : ℕ → Asked
pinch v = asked.Pinch v

pub returns-in_err-vertices : goal.returns-in_err-vertices
returns-in_err-vertices g c =
    let p = err_from_is_err_and c.from_residual.result c.from_residual.ensures.1 in
    rw (p.1, p.2) (nothing_yet _ _ c.requires.closed c.requires.clear)

pub loop-v-init : goal.loop-v-init
loop-v-init g c =
    let m = g.S.Surface.mesh c.args.mesh.now in
    record {
      so_far = so_far_none _ c.args.terms.grouped _ _ _ (ap (asked_left pinch c.args.terms m) (c.as_slice-v-items.ensures ∙ c.in_ok-vertices.ensures)) c.requires.closed c.requires.clear c.no_edit-count.ensures.done c.no_edit-count.ensures.refused;
      sum = omega (arith, c.no_edit-count.ensures.done, c.no_edit-count.ensures.refused);
    }

pub returns : goal.returns
returns g c =
    so_far_all _ _ c.args.terms.grouped _ _ c.loop-v.count c.loop-v.invariant.so_far
    (none_asked_left pinch c.args.terms (g.S.Surface.mesh c.loop-v.mesh) c.as_slice-v-items.result.now c.loop-v.v-index (omega (arith, c.loop-v-test.false)))

pub returns-in_err-may : goal.returns-in_err-may
returns-in_err-may g c =
    let p = err_from_is_err_and c.from_residual-in_err-may.result c.from_residual-in_err-may.ensures.1 in
    rw (p.1, p.2) (so_far_wanting _ _ c.args.terms.grouped _ _ c.loop-v.count c.loop-v.invariant.so_far)

pub returns-then-is_over : goal.returns-then-is_over
returns-then-is_over g c = so_far_over _ _ c.args.terms.grouped _ _ c.loop-v.count c.loop-v.invariant.so_far (sym c.is_over.ensures ∙ c.if-is_over.true)

pub returns-in_err-more : goal.returns-in_err-more
returns-in_err-more g c =
    let p = err_from_is_err_and c.from_residual-in_err-more.result c.from_residual-in_err-more.ensures.1 in
    let m = g.S.Surface.mesh c.loop-v.mesh in
    let terms = c.args.terms in
    let v = c.v-item.result in
    let items = c.as_slice-v-items.result.now in
    let rest : Mesh → List LogLine = λ n. asked_left pinch terms n (drop (c.loop-v.v-index + 1) items) in
    rw (p.1, p.2) (step_in_part _ _ _ terms.grouped _ (lines_of (exactly terms) m (pinch v)) _ rest c.loop-v.count
    (left_taken pinch terms items c.loop-v.v-index v c.loop-v-test.true c.v-item.is m)
    c.loop-v.invariant.so_far (sym c.is_over.ensures ∙ c.if-is_over.false) c.in_err-more.field-0.0 c.in_err-more.ensures.takes)

pub loop-v-preserved : goal.loop-v-preserved
loop-v-preserved g c =
    let m = g.S.Surface.mesh c.loop-v.mesh in
    let terms = c.args.terms in
    let v = c.v-item.result in
    let items = c.as_slice-v-items.result.now in
    let i = c.loop-v.v-index in
    let rest : Mesh → List LogLine = λ n. asked_left pinch terms n (drop (i + 1) items) in
    elim c.if-may.branch [
      | then-may+else-is_over+in_ok-more w ↦ rw (w.mesh-is, w.outside-is, w.count-is) (record {
        so_far = step_done _ _ _ terms.grouped _ (lines_of (exactly terms) m (pinch v)) _ rest c.loop-v.count (left_taken pinch terms items i v c.loop-v-test.true c.v-item.is m)
            c.loop-v.invariant.so_far (sym w.is_over.ensures ∙ w.if-is_over.false) _ w.sum-count.result w.in_ok-more.ensures.takes w.sum-count.ensures.done w.sum-count.ensures.refused;
        sum = omega (arith, w.in_ok-more.ensures.sum, c.loop-v.invariant.sum, w.sum-count.ensures.done, w.sum-count.ensures.refused);
      })
      | else-may w ↦ rw (w.mesh-is, w.outside-is, w.count-is) (record {
        so_far = so_far_skipped pinch terms items i v c.loop-v-test.true c.v-item.is _ _ _ c.loop-v.count (c.in_ok-may.ensures w.if-may.false) c.loop-v.invariant.so_far;
        sum = omega (arith, c.loop-v.invariant.sum);
      })
    ]
