use Rattle.std.proofs.Common.{◌≡◌, ◌+◌, Some, None, Ok, Err, map, slice_get, refl, ap, sym, subst, ◌∙◌}
use Rattle.std.proofs.lemmas.Option.{get_or_from_slice_get}
use Rattle.std.specs.FinMap as finite
use Rattle.id_table.specs.declared.rows.Item.{Item}
use Rattle.id_table.specs.Stock.{Stock}
use Rattle.id_table.specs.Stones.{IsFound, swapped, RiseFrom}
use Rattle.id_table.proofs.StoneLaws.{found_inside, view_of, rise_set, got_none, len-new}
use Rattle.id_table.proofs.BuriedItems.{stock_same, rise_swapped, found_swapped, place_inserted, buried_removed, no_none}
use Rattle.id_table.proofs.rows.Rows.raise.Goals as goal

pub find-requires : goal.find-requires
find-requires g c = subst (RiseFrom 0) (sym c.as_slice.ensures.value) c.self.invariant.rise

pub index-item-requires : goal.index-item-requires
index-item-requires g c = found_inside _ c.args.id c.in-Ok.at _ c.in-Ok.ensures c.as_slice.ensures.len

pub index_mut-requires : goal.index_mut-requires
index_mut-requires g c = found_inside _ c.args.id c.in-Ok.at _ c.in-Ok.ensures c.as_slice.ensures.len

pub invariant_of-self : goal.invariant_of-self
invariant_of-self g c =
    let xs = c.self.inside.items.items in
    let f = subst (λ ys. IsFound ys c.args.id (Ok c.in-Ok.at)) c.as_slice.ensures.value c.in-Ok.ensures in
    let y : Item g.row.T.Denot = c.index-item.result.now in
    let is : y ≡ f.0 = c.index-item.ensures ∙ get_or_from_slice_get xs c.in-Ok.at f.0 y f.1 in
    let at : slice_get xs c.in-Ok.at ≡ Some y = f.1 ∙ ap Some (sym is) in
    let ids = ap (λ e. e.id) is ∙ f.2 in
    let rise = c.self.invariant.rise in
    let item : Item g.row.T.Denot = record { id = y.id; held = Some c.args.row; buried = None } in
    let none : finite.get (view_of xs) c.args.id ≡ None = ap (λ (s : Stock g.row.T.Denot). finite.get s.live c.args.id) c.self.view_is ∙ c.requires.new in
    record {
      rise = rise_set 0 c.in-Ok.at xs y item rise at refl;
      count = ap (λ n. n + 1) c.self.invariant.count ∙ sym (ap finite.len (place_inserted xs c.args.id c.in-Ok.at y rise at ids item c.args.row refl refl) ∙ len-new (view_of xs) c.args.id c.args.row none);
    }

pub returns-in-Ok : goal.returns-in-Ok
returns-in-Ok g c =
    let xs = c.self.inside.items.items in
    let f = subst (λ ys. IsFound ys c.args.id (Ok c.in-Ok.at)) c.as_slice.ensures.value c.in-Ok.ensures in
    let y : Item g.row.T.Denot = c.index-item.result.now in
    let is : y ≡ f.0 = c.index-item.ensures ∙ get_or_from_slice_get xs c.in-Ok.at f.0 y f.1 in
    let at : slice_get xs c.in-Ok.at ≡ Some y = f.1 ∙ ap Some (sym is) in
    let ids = ap (λ e. e.id) is ∙ f.2 in
    let rise = c.self.invariant.rise in
    let item : Item g.row.T.Denot = record { id = y.id; held = Some c.args.row; buried = None } in
    stock_same _ _ _ _ _ _
    (place_inserted xs c.args.id c.in-Ok.at y rise at ids item c.args.row refl refl ∙ ap (λ (s : Stock g.row.T.Denot). finite.insert s.live c.args.id c.args.row) c.self.view_is)
    (buried_removed xs c.args.id c.in-Ok.at y rise at ids item refl refl ∙ ap (λ (s : Stock g.row.T.Denot). finite.remove s.buried c.args.id) c.self.view_is)
    (ap (λ (s : Stock g.row.T.Denot). s.room) c.self.view_is)

pub returns-in_default : goal.returns-in_default
returns-in_default g c =
    let xs = c.self.inside.items.items in
    let f = subst (λ r. IsFound xs c.args.id r) c.in_default.is (subst (λ ys. IsFound ys c.args.id c.find.result) c.as_slice.ensures.value c.find.ensures) in
    absurd (no_none _ (ap (λ (s : Stock g.row.T.Denot). finite.get s.buried c.args.id) (sym c.self.view_is) ∙ got_none (map swapped xs) c.args.id c.in_default.field-0 (rise_swapped 0 xs c.self.invariant.rise) (found_swapped xs c.args.id (Err c.in_default.field-0) f)) c.requires.buried)
