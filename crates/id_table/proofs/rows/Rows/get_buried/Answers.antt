use Rattle.std.proofs.Common.{◌≡◌, Some, Ok, Err, map, slice_get, ap, sym, subst, ◌∙◌}
use Rattle.std.proofs.lemmas.Option.{get_or_from_slice_get}
use Rattle.std.specs.FinMap as finite
use Rattle.id_table.specs.declared.rows.Item.{Item}
use Rattle.id_table.specs.Stock.{Stock}
use Rattle.id_table.specs.Stones.{IsFound, swapped, RiseFrom}
use Rattle.id_table.proofs.StoneLaws.{found_inside, got_none}
use Rattle.id_table.proofs.BuriedItems.{rise_swapped, found_swapped, buried_there}
use Rattle.id_table.proofs.rows.Rows.get_buried.Goals as goal

pub find-requires : goal.find-requires
find-requires g c = subst (RiseFrom 0) (sym c.as_slice.ensures.value) c.self.invariant.rise

pub index-requires : goal.index-requires
index-requires g c = found_inside _ c.args.id c.in-Ok.at _ c.in-Ok.ensures c.as_slice.ensures.len

pub returns-in-Ok : goal.returns-in-Ok
returns-in-Ok g c =
    let xs = c.self.inside.items.items in
    let f = subst (λ ys. IsFound ys c.args.id (Ok c.in-Ok.at)) c.as_slice.ensures.value c.in-Ok.ensures in
    let y : Item g.row.T.Denot = c.index.result.now in
    let is : y ≡ f.0 = c.index.ensures ∙ get_or_from_slice_get xs c.in-Ok.at f.0 y f.1 in
    let at : slice_get xs c.in-Ok.at ≡ Some y = f.1 ∙ ap Some (sym is) in
    let ids = ap (λ e. e.id) is ∙ f.2 in
    let rise = c.self.invariant.rise in
    sym (buried_there xs c.args.id c.in-Ok.at y rise at ids) ∙ ap (λ (s : Stock g.row.T.Denot). finite.get s.buried c.args.id) c.self.view_is

pub returns-in-Err : goal.returns-in-Err
returns-in-Err g c =
    let xs = c.self.inside.items.items in
    sym (got_none (map swapped xs) c.args.id c.in-Err.field-0 (rise_swapped 0 xs c.self.invariant.rise) (found_swapped xs c.args.id (Err c.in-Err.field-0) (subst (λ ys. IsFound ys c.args.id (Err c.in-Err.field-0)) c.as_slice.ensures.value c.in-Err.ensures))) ∙ ap (λ (s : Stock g.row.T.Denot). finite.get s.buried c.args.id) c.self.view_is
