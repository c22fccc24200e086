use Rattle.std.proofs.Common.{◌≢◌, ℕ, sym, subst, arith}
use Rattle.std.specs.Prelude.{slice_set}
use Rattle.pass_run.specs.Places.{IsPlaced}
use Rattle.pass_run.proofs.Placing.{placed_set, placed_beyond}
use Rattle.pass_run.proofs.places.place_again.Goals as goal

pub returns-then-place-len-clause-others : goal.returns-then-place-len-clause-others
returns-then-place-len-clause-others g c =
    let m = g.S.Surface.mesh c.args.mesh.now in
    let places = c.args.places.now.items in
    let P : ℕ → Type 0 = λ k. (u : ℕ) → (u ≢ c.args.v → IsPlaced m places u) → IsPlaced m (slice_set places k c.point_of.result) u in
    subst P (sym c.v.view_is) (placed_set m places c.args.v c.point_of.result c.point_of.ensures)

pub returns-else-place-len-clause-others : goal.returns-else-place-len-clause-others
returns-else-place-len-clause-others g c = placed_beyond (g.S.Surface.mesh c.args.mesh.now) c.args.places.now.items c.args.v (omega (arith, c.if-place-len.false, c.len.ensures, c.v.view_is))
