use Rattle.std.proofs.Common.{sym, ◌∙◌}
use Rattle.track_engine.specs.Shifting.{stirs}
use Rattle.track_engine.proofs.AskedMoves.{any_here, none_left, asks_among}
use Rattle.track_engine.proofs.shift_sums.asks.Goals as goal

pub returns-then-stirs : goal.returns-then-stirs
returns-then-stirs g c =
    let m = g.S.Surface.mesh c.args.mesh.now in
    let items = c.as_slice-s-items.result.now in
    sym (asks_among m c.args.asked.now items c.as_slice-s-items.ensures.same c.as_slice-s-items.ensures.rise ∙ any_here (stirs m) items c.loop-s.s-index c.s-item.result c.loop-s-test.true c.s-item.is (sym c.if-stirs.ensures) c.loop-s.invariant)

pub returns : goal.returns
returns g c =
    let m = g.S.Surface.mesh c.args.mesh.now in
    let items = c.as_slice-s-items.result.now in
    sym (asks_among m c.args.asked.now items c.as_slice-s-items.ensures.same c.as_slice-s-items.ensures.rise ∙ none_left (stirs m) items c.loop-s.s-index c.loop-s-test.false c.loop-s.invariant)
