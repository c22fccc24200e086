use Rattle.std.proofs.Common.{◌≡◌, ◌+◌, List, length, drop, refl, ap, sym, ◌∙◌, arith}
use Rattle.std.proofs.lemmas.Option.{slice_get_read}
use Rattle.std.proofs.lemmas.Result.{err_from_is_err_and}
use Rattle.mesh_base.specs.Mesh.{Mesh}
use Rattle.log_text.specs.declared.LogLine.{LogLine}
use Rattle.pass_run.specs.Candidates.{zip_of}
use Rattle.pass_run.specs.Near.{may_be_due, near_zips}
use Rattle.pass_run.specs.PassLines.{exactly, lines_from}
use Rattle.pass_run.proofs.Asking.{none_left}
use Rattle.pass_run.proofs.NearPairs.{pairs_left, pairs_here, points_stay, all_pairs_left}
use Rattle.pass_run.proofs.NearPlaces.{middles_within, middle_there, midpoints_stay}
use Rattle.pass_run.proofs.Room.{edges_few, near_few}
use Rattle.pass_run.proofs.Stages.{nothing_yet, so_far_none, so_far_over, so_far_all, so_far_wanting, step_done, step_in_part}
use Rattle.pass_run.proofs.passes.take_pairs.Goals as goal

pub returns-in_err-edges : goal.returns-in_err-edges
returns-in_err-edges g c =
    let p = err_from_is_err_and c.from_residual.result c.from_residual.ensures.1 in
    rw (p.1, p.2) (nothing_yet _ _ c.requires.closed c.requires.clear)

pub returns-in_err-middles : goal.returns-in_err-middles
returns-in_err-middles g c =
    let p = err_from_is_err_and c.from_residual-in_err-middles.result c.from_residual-in_err-middles.ensures.1 in
    rw (p.1, p.2) (nothing_yet _ _ c.requires.closed c.requires.clear)

pub cells_for-requires : goal.cells_for-requires
cells_for-requires g c = middles_within (g.S.Surface.mesh c.args.mesh.now) c.as_slice-edges.result.now c.as_slice-middles.result.now (c.as_slice-middles.ensures.value ∙ c.in_ok-middles.ensures)

pub returns-in_err-cells : goal.returns-in_err-cells
returns-in_err-cells g c =
    let p = err_from_is_err_and c.from_residual-in_err-cells.result c.from_residual-in_err-cells.ensures.1 in
    rw (p.1, p.2) (nothing_yet _ _ c.requires.closed c.requires.clear)

pub loop-i-init : goal.loop-i-init
loop-i-init g c =
    let m = g.S.Surface.mesh c.args.mesh.now in
    let rules = exactly c.args.terms in
    record {
      so_far = so_far_none _ c.args.terms.grouped _ _ _
          (all_pairs_left rules c.args.terms.kind c.args.within c.requires.zips m c.as_slice-edges.result.now (c.as_slice-edges.ensures ∙ c.in_ok-edges.ensures))
          c.requires.closed c.requires.clear c.no_edit-count.ensures.done c.no_edit-count.ensures.refused;
      points = refl;
      sum = omega (arith, c.no_edit-count.ensures.done, c.no_edit-count.ensures.refused);
    }

pub returns-then-is_over : goal.returns-then-is_over
returns-then-is_over g c = so_far_over _ _ c.args.terms.grouped _ _ c.loop-i.count c.loop-i.invariant.so_far (sym c.is_over.ensures ∙ c.if-is_over.true)

pub near_pairs-requires-clause-midpoints : goal.near_pairs-requires-clause-midpoints
near_pairs-requires-clause-midpoints g c = midpoints_stay (g.S.Surface.mesh c.args.mesh.now) (g.S.Surface.mesh c.loop-i.mesh) c.as_slice-edges.result.now c.as_slice-middles.result.now c.loop-i.invariant.points (c.as_slice-middles.ensures.value ∙ c.in_ok-middles.ensures)

pub near_pairs-requires-clause-own : goal.near_pairs-requires-clause-own
near_pairs-requires-clause-own g c =
    let edges = c.as_slice-edges.result.now in
    let middles = c.as_slice-middles.result.now in
    let e = c.index-edges-i.result in
    let stay = midpoints_stay (g.S.Surface.mesh c.args.mesh.now) (g.S.Surface.mesh c.loop-i.mesh) edges middles c.loop-i.invariant.points (c.as_slice-middles.ensures.value ∙ c.in_ok-middles.ensures) in
    c.middle_at.ensures ∙ middle_there (g.S.Surface.mesh c.loop-i.mesh) edges middles stay c.loop-i.i e (slice_get_read edges (length edges) c.loop-i.i e refl c.loop-i-test.true c.index-edges-i.is)

pub near_pairs-requires-clause-within : goal.near_pairs-requires-clause-within
near_pairs-requires-clause-within g c = middles_within (g.S.Surface.mesh c.args.mesh.now) c.as_slice-edges.result.now c.as_slice-middles.result.now (c.as_slice-middles.ensures.value ∙ c.in_ok-middles.ensures)

pub returns-in_err-asked : goal.returns-in_err-asked
returns-in_err-asked g c =
    let p = err_from_is_err_and c.from_residual-in_err-asked.result c.from_residual-in_err-asked.ensures.1 in
    rw (p.1, p.2) (so_far_wanting _ _ c.args.terms.grouped _ _ c.loop-i.count c.loop-i.invariant.so_far)

pub returns-in_err-more : goal.returns-in_err-more
returns-in_err-more g c =
    let p = err_from_is_err_and c.from_residual-in_err-more.result c.from_residual-in_err-more.ensures.1 in
    let m = g.S.Surface.mesh c.loop-i.mesh in
    let rules = exactly c.args.terms in
    let items = c.as_slice-edges.result.now in
    let e = c.index-edges-i.result in
    let all = c.as_slice.result.now in
    let is : all ≡ near_zips m c.args.within e (drop (c.loop-i.i + 1) items) = c.as_slice.ensures ∙ c.in_ok-asked.ensures in
    let rest : Mesh → List LogLine = λ n. pairs_left rules n (drop (c.loop-i.i + 1) items) in
    rw (p.1, p.2) (step_in_part _ _ _ c.args.terms.grouped _ (lines_from rules m all) _ rest c.loop-i.count
    (pairs_here c.args.terms c.args.within c.requires.zips m items c.loop-i.i e c.loop-i-test.true c.index-edges-i.is all is)
    c.loop-i.invariant.so_far (sym c.is_over.ensures ∙ c.if-is_over.false) c.in_err-more.field-0.0 c.in_err-more.ensures.takes)

pub sum-count-requires : goal.sum-count-requires
sum-count-requires g c =
    let m = g.S.Surface.mesh c.loop-i.mesh in
    let items = c.as_slice-edges.result.now in
    let e = c.index-edges-i.result in
    let all = c.as_slice.result.now in
    let is : all ≡ near_zips m c.args.within e (drop (c.loop-i.i + 1) items) = c.as_slice.ensures ∙ c.in_ok-asked.ensures in
    let few = edges_few (g.S.Surface.mesh c.args.mesh.now) (g.met.S.Surface.sound c.args.mesh.now) in
    let same = ap length (c.as_slice-edges.ensures ∙ c.in_ok-edges.ensures) in
    let fewer = near_few (zip_of e) (may_be_due m c.args.within e) items c.loop-i.i all c.loop-i-test.true is in
    omega (arith, few, same, fewer, c.in_ok-more.ensures.sum, c.loop-i.invariant.sum)

pub loop-i-preserved : goal.loop-i-preserved
loop-i-preserved g c =
    let m = g.S.Surface.mesh c.loop-i.mesh in
    let rules = exactly c.args.terms in
    let items = c.as_slice-edges.result.now in
    let e = c.index-edges-i.result in
    let all = c.as_slice.result.now in
    let is : all ≡ near_zips m c.args.within e (drop (c.loop-i.i + 1) items) = c.as_slice.ensures ∙ c.in_ok-asked.ensures in
    let rest : Mesh → List LogLine = λ n. pairs_left rules n (drop (c.loop-i.i + 1) items) in
    let few = edges_few (g.S.Surface.mesh c.args.mesh.now) (g.met.S.Surface.sound c.args.mesh.now) in
    let same = ap length (c.as_slice-edges.ensures ∙ c.in_ok-edges.ensures) in
    let fewer = near_few (zip_of e) (may_be_due m c.args.within e) items c.loop-i.i all c.loop-i-test.true is in
    record {
      so_far = step_done _ _ _ c.args.terms.grouped _ (lines_from rules m all) _ rest c.loop-i.count
          (pairs_here c.args.terms c.args.within c.requires.zips m items c.loop-i.i e c.loop-i-test.true c.index-edges-i.is all is)
          c.loop-i.invariant.so_far (sym c.is_over.ensures ∙ c.if-is_over.false) _ c.sum-count.result c.in_ok-more.ensures.takes c.sum-count.ensures.done c.sum-count.ensures.refused;
      points = points_stay c.args.terms c.args.within m _ (drop (c.loop-i.i + 1) items) e all is c.in_ok-more.ensures.takes.said.0 ∙ c.loop-i.invariant.points;
      sum = omega (arith, few, same, fewer, c.in_ok-more.ensures.sum, c.loop-i.invariant.sum, c.sum-count.ensures.done, c.sum-count.ensures.refused);
    }

pub returns : goal.returns
returns g c =
    so_far_all _ _ c.args.terms.grouped _ _ c.loop-i.count c.loop-i.invariant.so_far
    (ap (pairs_left (exactly c.args.terms) (g.S.Surface.mesh c.loop-i.mesh)) (none_left c.as_slice-edges.result.now c.loop-i.i (omega (arith, c.loop-i-test.false))))
