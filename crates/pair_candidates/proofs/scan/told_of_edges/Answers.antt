use Rattle.std.proofs.Common.{ℕ, ◌++◌, ap, sym, subst, ◌∙◌}
use Rattle.std.specs.List.{flat_map}
use Rattle.pair_paths.specs.Moving.{moving_edge}
use Rattle.pair_paths.proofs.Walks.{made_all, made_more}
use Rattle.pair_candidates.specs.Told.{told_among, up_to, IsFull}
use Rattle.pair_candidates.proofs.Told.{full_enough}
use Rattle.pair_candidates.proofs.scan.told_of_edges.Goals as goal

pub loop-a-preserved : goal.loop-a-preserved
loop-a-preserved g c =
    let scan = c.args.scan.now in
    let test = g.A.PairTest.test scan.test.now in
    let w = g.P.Paths.motion scan.paths.now in
    let faces = scan.faces.now in
    let items = scan.edges.now in
    let one = λ (e : ℕ × ℕ). told_among test g.A.PairTest.what (moving_edge w e.0 e.1) faces in
    let made = ap (λ e. told_among test g.A.PairTest.what e faces) c.moving_edge-e.ensures ∙ ap one c.loop-a-item.is in
    record {
      put = made_more one items c.loop-a.a-index c.loop-a-item.result c.loop-a.found c.put_told_of_edge.new.found (flat_map one items) c.loop-a-test.true
          (c.in_ok-put_told_of_edge.ensures.found ∙ ap (λ zs. c.loop-a.found ++ zs) made)
          c.loop-a.invariant.put;
      views = c.in_ok-put_told_of_edge.ensures.views;
    }

pub returns-then-is_full : goal.returns-then-is_full
returns-then-is_full g c =
    full_enough c.args.most c.loop-a.found _ _ (subst (λ n. IsFull n c.args.most) c.len.ensures (c.is_full.ensures c.if-is_full.true)) c.loop-a.invariant.put

pub returns : goal.returns
returns g c =
    let scan = c.args.scan.now in
    let test = g.A.PairTest.test scan.test.now in
    let w = g.P.Paths.motion scan.paths.now in
    let one = λ (e : ℕ × ℕ). told_among test g.A.PairTest.what (moving_edge w e.0 e.1) scan.faces.now in
    ap (up_to c.args.most) (sym (made_all one scan.edges.now c.loop-a.a-index c.loop-a.found c.loop-a-test.false) ∙ c.loop-a.invariant.put)
