use Rattle.std.proofs.Common.{◌≡◌, ◌==◌, cond, Ok, Err, Some, None, slice_get, refl, ap, sym, subst, ◌∙◌, length, arith}
use Rattle.std.proofs.lemmas.Option.{get_or_from_slice_get}
use Rattle.id_table.specs.declared.rows.Item.{Item}
use Rattle.std.specs.Ordering.{nat_cmp}
use Rattle.std.specs.FinMap.Entries.{find}
use Rattle.id_table.specs.Stones.{IsFound, Holds, held_of, RiseFrom}
use Rattle.std.specs.List.{insert}
use Rattle.id_table.proofs.StoneLaws.{found_inside, rise_set, find-set, rise_put, find-put_at, lower_inside}
use Rattle.id_table.proofs.BuriedItems.{buried_stays, buried-put}
use Rattle.id_table.proofs.rows.put.Goals as goal

pub find-requires : goal.find-requires
find-requires g c = subst (RiseFrom 0) (sym c.as_slice.ensures.value) c.requires

pub index-item-requires : goal.index-item-requires
index-item-requires g c = found_inside _ c.args.id c.in-Ok.at _ c.in-Ok.ensures c.as_slice.ensures.len

pub index_mut-requires : goal.index_mut-requires
index_mut-requires g c = found_inside _ c.args.id c.in-Ok.at _ c.in-Ok.ensures c.as_slice.ensures.len

pub insert-requires : goal.insert-requires
insert-requires g c =
    let f = subst (λ ys. IsFound ys c.args.id (Err c.in-Err.at)) c.as_slice.ensures.value c.in-Err.ensures in
    let inside = lower_inside c.args.id c.in-Err.at c.args.items.now.items f.0 in
    omega (arith, inside, c.as_slice.ensures.len, ap length c.as_slice.ensures.value, c.reserve.ensures.len)

pub returns-in-Ok-clause-ok : goal.returns-in-Ok-clause-ok
returns-in-Ok-clause-ok g c =
    let xs = c.args.items.now.items in
    let f = subst (λ ys. IsFound ys c.args.id (Ok c.in-Ok.at)) c.as_slice.ensures.value c.in-Ok.ensures in
    let y : Item g.row.T.Denot = c.index-item.result.now in
    let is : y ≡ f.0 = c.index-item.ensures ∙ get_or_from_slice_get xs c.in-Ok.at f.0 y f.1 in
    let at : slice_get xs c.in-Ok.at ≡ Some y = f.1 ∙ ap Some (sym is) in
    let ids = ap (λ e. e.id) is ∙ f.2 in
    let item : Item g.row.T.Denot = record { id = y.id; held = Some c.args.row; buried = y.buried } in
    record {
      rise = rise_set 0 c.in-Ok.at xs y item c.requires at refl;
      found = λ q. find-set q 0 c.in-Ok.at xs y item c.requires at refl ∙ ap (λ k. cond (q == k) (Some c.args.row) (find nat_cmp q (held_of xs))) ids;
      buried = buried_stays xs c.args.id c.in-Ok.at y c.requires at ids item refl refl;
    }

pub returns-in_ok-insert-in-Err-clause-ok : goal.returns-in_ok-insert-in-Err-clause-ok
returns-in_ok-insert-in-Err-clause-ok g c =
    let xs = c.args.items.now.items in
    let f = subst (λ ys. IsFound ys c.args.id (Err c.in-Err.at)) c.as_slice.ensures.value c.in-Err.ensures in
    let item : Item g.row.T.Denot = record { id = c.args.id; held = Some c.args.row; buried = None } in
    let items : c.insert.new.self.items ≡ insert xs c.in-Err.at item = c.in_ok-insert-in-Err.ensures.items ∙ ap (λ ys. insert ys c.in-Err.at item) c.reserve.ensures.items in
    subst (λ ys. Holds xs ys c.args.id c.args.row) (sym items) (record {
      rise = rise_put 0 c.in-Err.at xs item c.requires (omega arith) f.0 f.1;
      found = λ q. find-put_at q 0 c.in-Err.at xs item c.requires f.0 f.1;
      buried = buried-put c.in-Err.at xs item c.requires f.0 f.1 refl;
    })
