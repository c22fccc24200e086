use Rattle.std.proofs.Common.{◌≡◌, Some, length, slice_get, refl, subst}
use Rattle.std.proofs.lemmas.Option.{slice_get_read}
use Rattle.track_run.proofs.listed_volume.point_in.Goals as goal

pub returns-in-Some : goal.returns-in-Some
returns-in-Some g c =
    let points = c.args.points.now in
    let p = c.in-Some.p.now in
    let at = c.in-Some.ensures.lookup in
    c.requires c.args.v p (subst (λ k. slice_get points k ≡ Some p) c.v.view_is (slice_get_read points (length points) c.v.inside.0 p refl at.3.0 at.1))
