use Rattle.std.proofs.Common.{◌+◌, ℕ, length, ap, sym, ◌∙◌, subst}
use Rattle.std.proofs.lemmas.List.{length_push}
use Rattle.pass_run.specs.Places.{IsPlaced}
use Rattle.pass_run.proofs.Placing.{placed_pushed}
use Rattle.pass_run.proofs.places.all_places.Goals as goal

pub loop-v-preserved : goal.loop-v-preserved
loop-v-preserved g c =
    let m = g.S.Surface.mesh c.args.mesh.now in
    let loop = c.loop-v in
    record {
      placed = subst (λ l. (u : ℕ) → IsPlaced m l u) (sym c.in_ok-push.ensures.items) (placed_pushed m loop.places.items c.point_of.result loop.v loop.invariant.long c.point_of.ensures loop.invariant.placed);
      long = ap length c.in_ok-push.ensures.items ∙ length_push loop.places.items c.point_of.result ∙ ap (λ n. n + 1) loop.invariant.long;
    }
