use Rattle.std.proofs.Common.{◌≡◌, ◌-◌, true, Some, None, Ok, is_some, slice_get, refl, ap, sym, subst, ◌∙◌, arith}
use Rattle.std.proofs.lemmas.Option.{get_or_from_slice_get}
use Rattle.std.specs.Ordering.{nat_cmp}
use Rattle.std.specs.FinMap as finite
use Rattle.id_table.specs.declared.rows.Item.{Item}
use Rattle.id_table.specs.Stock.{Stock}
use Rattle.id_table.specs.Stones.{IsFound, RiseFrom}
use Rattle.id_table.proofs.StoneLaws.{found_inside, view_of, rise_set, got_none, len-gone, len-some}
use Rattle.id_table.proofs.BuriedItems.{stock_same, place_removed, buried_stays, no_none}
use Rattle.id_table.proofs.rows.Rows.remove.Goals as goal

pub find-requires : goal.find-requires
find-requires g c = subst (RiseFrom 0) (sym c.as_slice.ensures.value) c.self.invariant.rise

pub index-item-requires : goal.index-item-requires
index-item-requires g c = found_inside _ c.args.id c.in-Ok.at _ c.in-Ok.ensures c.as_slice.ensures.len

pub index_mut-requires : goal.index_mut-requires
index_mut-requires g c = found_inside _ c.args.id c.in-Ok.at _ c.in-Ok.ensures c.as_slice.ensures.len

pub overflow_sub-self : goal.overflow_sub-self
overflow_sub-self g c =
    let xs = c.self.inside.items.items in
    let there : is_some (finite.get (view_of xs) c.args.id) ≡ true = ap (λ (s : Stock g.row.T.Denot). is_some (finite.get s.live c.args.id)) c.self.view_is ∙ c.requires in
    let some = len-some (view_of xs) c.args.id there in
    let count = c.self.invariant.count in
    omega (arith, some, count)

pub invariant_of-self : goal.invariant_of-self
invariant_of-self g c =
    let xs = c.self.inside.items.items in
    let f = subst (λ ys. IsFound ys c.args.id (Ok c.in-Ok.at)) c.as_slice.ensures.value c.in-Ok.ensures in
    let y : Item g.row.T.Denot = c.index-item.result.now in
    let is : y ≡ f.0 = c.index-item.ensures ∙ get_or_from_slice_get xs c.in-Ok.at f.0 y f.1 in
    let at : slice_get xs c.in-Ok.at ≡ Some y = f.1 ∙ ap Some (sym is) in
    let ids = ap (λ e. e.id) is ∙ f.2 in
    let rise = c.self.invariant.rise in
    let item : Item g.row.T.Denot = record { id = y.id; held = None; buried = y.buried } in
    let there : is_some (finite.get (view_of xs) c.args.id) ≡ true = ap (λ (s : Stock g.row.T.Denot). is_some (finite.get s.live c.args.id)) c.self.view_is ∙ c.requires in
    record {
      rise = c.tidy.ensures.rise (rise_set 0 c.in-Ok.at xs y item rise at refl);
      count = ap (λ n. n - 1) c.self.invariant.count ∙ sym (ap (λ es. finite.len (finite.from_entries {R = nat_cmp} es)) c.tidy.ensures.held ∙ ap finite.len (place_removed xs c.args.id c.in-Ok.at y rise at ids item refl refl) ∙ len-gone (view_of xs) c.args.id there);
    }

pub returns-in-Ok-clause-kept : goal.returns-in-Ok-clause-kept
returns-in-Ok-clause-kept g c =
    let xs = c.self.inside.items.items in
    let f = subst (λ ys. IsFound ys c.args.id (Ok c.in-Ok.at)) c.as_slice.ensures.value c.in-Ok.ensures in
    let y : Item g.row.T.Denot = c.index-item.result.now in
    let is : y ≡ f.0 = c.index-item.ensures ∙ get_or_from_slice_get xs c.in-Ok.at f.0 y f.1 in
    let at : slice_get xs c.in-Ok.at ≡ Some y = f.1 ∙ ap Some (sym is) in
    let ids = ap (λ e. e.id) is ∙ f.2 in
    let rise = c.self.invariant.rise in
    let item : Item g.row.T.Denot = record { id = y.id; held = None; buried = y.buried } in
    stock_same _ _ _ _ _ _
    (ap (finite.from_entries {R = nat_cmp}) c.tidy.ensures.held ∙ place_removed xs c.args.id c.in-Ok.at y rise at ids item refl refl ∙ ap (λ (s : Stock g.row.T.Denot). finite.remove s.live c.args.id) c.self.view_is)
    (ap (finite.from_entries {R = nat_cmp}) c.tidy.ensures.buried ∙ buried_stays xs c.args.id c.in-Ok.at y rise at ids item refl refl ∙ ap (λ (s : Stock g.row.T.Denot). s.buried) c.self.view_is)
    refl

pub returns-in_default-clause-kept : goal.returns-in_default-clause-kept
returns-in_default-clause-kept g c =
    let xs = c.self.inside.items.items in
    let f = subst (λ r. IsFound xs c.args.id r) c.in_default.is (subst (λ ys. IsFound ys c.args.id c.find.result) c.as_slice.ensures.value c.find.ensures) in
    absurd (no_none _ (ap (λ (s : Stock g.row.T.Denot). finite.get s.live c.args.id) (sym c.self.view_is) ∙ got_none xs c.args.id c.in_default.field-0 c.self.invariant.rise f) c.requires)
