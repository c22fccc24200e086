use Rattle.std.proofs.Common.{◌+◌, ap, sym, subst, map, drop, ◌∙◌, slice_get}
use Rattle.std.specs.FinMap as finite
use Rattle.mesh_base.specs.Sides.{above}
use Rattle.id_table.specs.Stones.{IsLower, held_of}
use Rattle.id_table.specs.Stock.{Stock}
use Rattle.id_table.proofs.StoneLaws.{above-view}
use Rattle.id_table.proofs.rows.Rows.above.Goals as goal

pub returns : goal.returns
returns g c =
    let xs = c.self.inside.items.items in
    let lower = subst (λ ys. IsLower (c.args.n + 1) c.lower.result ys) c.as_slice-2.ensures.value c.lower.ensures in
    c.first_held.ensures
    ∙ ap (λ ys. slice_get (map (λ e. e.0) (held_of (drop c.lower.result ys))) 0) c.as_slice.ensures.value
    ∙ sym (ap (λ ks. slice_get ks 0) (above-view c.args.n c.lower.result xs c.self.invariant.rise lower))
    ∙ ap (λ (s : Stock g.row.T.Denot). slice_get (above c.args.n (finite.keys s.live)) 0) c.self.view_is
