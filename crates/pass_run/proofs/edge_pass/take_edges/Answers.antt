use Rattle.std.proofs.Common.{◌+◌, List, drop, ap, sym, ◌∙◌, arith}
use Rattle.std.proofs.lemmas.Result.{err_from_is_err_and}
use Rattle.mesh_base.specs.Mesh.{Mesh}
use Rattle.log_text.specs.declared.LogLine.{LogLine}
use Rattle.pass_run.specs.Candidates.{ask_of}
use Rattle.pass_run.specs.PassLines.{exactly, lines_of}
use Rattle.pass_run.proofs.AskedTurns.{left_taken, so_far_skipped, none_asked_left}
use Rattle.pass_run.proofs.EdgeTurns.{edges_left}
use Rattle.pass_run.proofs.Stages.{nothing_yet, so_far_none, so_far_over, so_far_all, step_done, step_in_part}
use Rattle.pass_run.proofs.edge_pass.take_edges.Goals as goal
use Rattle.pass_run.proofs.edge_pass.take_edges.Goals.{then-may_be_due+else-is_over+in_ok-more, else-may_be_due}

pub returns-in_err-edges : goal.returns-in_err-edges
returns-in_err-edges g c =
    let p = err_from_is_err_and c.from_residual.result c.from_residual.ensures.1 in
    rw (p.1, p.2) (nothing_yet _ _ c.requires.closed c.requires.clear)

pub returns-in_err-places : goal.returns-in_err-places
returns-in_err-places g c =
    let p = err_from_is_err_and c.from_residual-in_err-places.result c.from_residual-in_err-places.ensures.1 in
    rw (p.1, p.2) (nothing_yet _ _ c.requires.closed c.requires.clear)

pub loop-e-init : goal.loop-e-init
loop-e-init g c =
    let m = g.S.Surface.mesh c.args.mesh.now in
    record {
      so_far = so_far_none _ c.args.terms.grouped _ _ _ (ap (edges_left c.args.terms m) (c.as_slice-e-items.ensures ∙ c.in_ok-edges.ensures)) c.requires.closed c.requires.clear c.no_edit-count.ensures.done c.no_edit-count.ensures.refused;
      places = c.in_ok-places.ensures;
      sum = omega (arith, c.no_edit-count.ensures.done, c.no_edit-count.ensures.refused);
    }

pub returns-then-is_over : goal.returns-then-is_over
returns-then-is_over g c = so_far_over _ _ c.args.terms.grouped _ _ c.loop-e.count c.loop-e.invariant.so_far (sym c.is_over.ensures ∙ c.if-is_over.true)

pub returns-in_err-more : goal.returns-in_err-more
returns-in_err-more g c =
    let p = err_from_is_err_and c.from_residual-in_err-more.result c.from_residual-in_err-more.ensures.1 in
    let m = g.S.Surface.mesh c.loop-e.mesh in
    let terms = c.args.terms in
    let e = c.e-item.result in
    let items = c.as_slice-e-items.result.now in
    let rest : Mesh → List LogLine = λ n. edges_left terms n (drop (c.loop-e.e-index + 1) items) in
    rw (p.1, p.2) (step_in_part _ _ _ terms.grouped _ (lines_of (exactly terms) m (ask_of terms.kind e)) _ rest c.loop-e.count
    (left_taken (ask_of terms.kind) terms items c.loop-e.e-index e c.loop-e-test.true c.e-item.is m)
    c.loop-e.invariant.so_far (sym c.is_over.ensures ∙ c.if-is_over.false) c.in_err-more.field-0.0 c.in_err-more.ensures.takes)

pub returns : goal.returns
returns g c =
    so_far_all _ _ c.args.terms.grouped _ _ c.loop-e.count c.loop-e.invariant.so_far
    (none_asked_left (ask_of c.args.terms.kind) c.args.terms (g.S.Surface.mesh c.loop-e.mesh) c.as_slice-e-items.result.now c.loop-e.e-index (omega (arith, c.loop-e-test.false)))

pub loop-e-preserved : goal.loop-e-preserved
loop-e-preserved g c =
    let m = g.S.Surface.mesh c.loop-e.mesh in
    let terms = c.args.terms in
    let e = c.e-item.result in
    let items = c.as_slice-e-items.result.now in
    let i = c.loop-e.e-index in
    let rest : Mesh → List LogLine = λ n. edges_left terms n (drop (i + 1) items) in
    elim c.if-may_be_due.branch [
      | then-may_be_due+else-is_over+in_ok-more w ↦ rw (w.mesh-is, w.outside-is, w.places-is, w.count-is) (record {
        so_far = step_done _ _ _ terms.grouped _ (lines_of (exactly terms) m (ask_of terms.kind e)) _ rest c.loop-e.count (left_taken (ask_of terms.kind) terms items i e c.loop-e-test.true c.e-item.is m)
            c.loop-e.invariant.so_far (sym w.is_over.ensures ∙ w.if-is_over.false) _ w.sum-count.result w.in_ok-more.ensures.takes w.sum-count.ensures.done w.sum-count.ensures.refused;
        places = w.in_ok-more.ensures.places;
        sum = omega (arith, w.in_ok-more.ensures.sum, c.loop-e.invariant.sum, w.sum-count.ensures.done, w.sum-count.ensures.refused);
      })
      | else-may_be_due w ↦ rw (w.mesh-is, w.outside-is, w.places-is, w.count-is) (record {
        so_far = so_far_skipped (ask_of terms.kind) terms items i e c.loop-e-test.true c.e-item.is _ _ _ c.loop-e.count (c.may_be_due.ensures w.if-may_be_due.false) c.loop-e.invariant.so_far;
        places = c.loop-e.invariant.places;
        sum = omega (arith, c.loop-e.invariant.sum);
      })
    ]
