use Rattle.std.proofs.Common.{◌+◌, ap, sym, subst, map, drop, ◌∙◌, slice_get}
use Rattle.std.proofs.lemmas.List.{drop-map}
use Rattle.std.specs.FinMap as finite
use Rattle.mesh_base.specs.Sides.{above}
use Rattle.id_table.specs.Stones.{IsLower, held_of, buried_of, swapped}
use Rattle.id_table.specs.Stock.{Stock}
use Rattle.id_table.proofs.StoneLaws.{above-view}
use Rattle.id_table.proofs.BuriedItems.{rise_swapped, lower_swapped}
use Rattle.id_table.proofs.rows.Rows.buried_above.Goals as goal

pub returns : goal.returns
returns g c =
    let xs = c.self.inside.items.items in
    let lower = subst (λ ys. IsLower (c.args.n + 1) c.lower.result ys) c.as_slice-2.ensures.value c.lower.ensures in
    c.first_buried.ensures
    ∙ ap (λ ys. slice_get (map (λ e. e.0) (buried_of (drop c.lower.result ys))) 0) c.as_slice.ensures.value
    ∙ ap (λ ys. slice_get (map (λ e. e.0) (held_of ys)) 0) (sym (drop-map swapped c.lower.result xs))
    ∙ sym (ap (λ ks. slice_get ks 0) (above-view c.args.n c.lower.result (map swapped xs) (rise_swapped 0 xs c.self.invariant.rise) (lower_swapped (c.args.n + 1) c.lower.result xs lower)))
    ∙ ap (λ (s : Stock g.row.T.Denot). slice_get (above c.args.n (finite.keys s.buried)) 0) c.self.view_is
