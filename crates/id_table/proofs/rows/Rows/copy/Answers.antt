use Rattle.std.proofs.Common.{map, refl, ap, sym, subst, ◌∙◌}
use Rattle.id_table.specs.Stock.{Stock}
use Rattle.id_table.specs.Stones.{AreCounted, swapped}
use Rattle.id_table.proofs.BuriedItems.{stock_same}
use Rattle.id_table.proofs.Copies.{items-copied}
use Rattle.id_table.proofs.StoneLaws.{view_of}
use Rattle.id_table.proofs.rows.Rows.copy.Goals as goal

pub invariant_of-result : goal.invariant_of-result
invariant_of-result g c =
    let same = items-copied _ (λ x y h. h) c.self.inside.items.items c.in_ok-clone.field-0.items c.in_ok-clone.ensures.cases.0 in
    subst (λ xs. AreCounted xs c.self.inside.live) (sym same) c.self.invariant

pub returns : goal.returns
returns g c =
    let same = items-copied _ (λ x y h. h) c.self.inside.items.items c.in_ok-clone.field-0.items c.in_ok-clone.ensures.cases.0 in
    stock_same _ _ _ _ _ _ (ap view_of same ∙ ap (λ (s : Stock g.row.T.Denot). s.live) c.self.view_is) (ap (λ xs. view_of (map swapped xs)) same ∙ ap (λ (s : Stock g.row.T.Denot). s.buried) c.self.view_is) refl
