use Rattle.std.proofs.Common.{◌+◌, length, ap, sym, ◌∙◌, subst}
use Rattle.std.proofs.lemmas.List.{length_push}
use Rattle.track_run.specs.Places.{ArePlaced}
use Rattle.track_run.proofs.FaceSums.{placed_pushed}
use Rattle.track_run.proofs.listed_volume.all_points.Goals as goal

pub loop-v-preserved : goal.loop-v-preserved
loop-v-preserved g c =
    let m = g.S.Surface.mesh c.args.mesh.now in
    let loop = c.loop-v in
    record {
      placed = subst (λ l. ArePlaced m l) (sym c.in_ok-push.ensures.items) (placed_pushed m loop.points.items c.point_of.result loop.v loop.invariant.long c.point_of.ensures loop.invariant.placed);
      long = ap length c.in_ok-push.ensures.items ∙ length_push loop.points.items c.point_of.result ∙ ap (λ n. n + 1) loop.invariant.long;
    }
