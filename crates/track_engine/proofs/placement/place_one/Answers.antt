use Rattle.std.proofs.Common.{sym}
use Rattle.track_engine.proofs.PlaceLemmas.{placed_as}
use Rattle.track_engine.proofs.placement.place_one.Goals as goal

pub returns-clause-moved : goal.returns-clause-moved
returns-clause-moved g c = placed_as _ _ c.args.s.now c.in-Some.p c.in-Some-moved.end (sym c.if-not-moves.ensures) c.in-Some.ensures c.in-Some-moved.ensures.made c.in_ok-place.ensures.ok
