use Rattle.std.proofs.Common.{◌≡◌, ◌+◌, None, refl, ap, sym, ◌∙◌}
use Rattle.std.specs.FinMap as finite
use Rattle.id_table.specs.Stock.{Stock}
use Rattle.id_table.proofs.StoneLaws.{view_of, view-insert, len-new}
use Rattle.id_table.proofs.BuriedItems.{stock_same}
use Rattle.id_table.proofs.rows.Rows.insert.Goals as goal

pub invariant_of-self-2 : goal.invariant_of-self-2
invariant_of-self-2 g c =
    let xs = c.self.inside.items.items in
    let h = c.in_ok-put.ensures.ok in
    let none : finite.get (view_of xs) c.args.id ≡ None = ap (λ (s : Stock g.row.T.Denot). finite.get s.live c.args.id) c.self.view_is ∙ c.requires.new in
    record {
      rise = h.rise;
      count = ap (λ n. n + 1) c.self.invariant.count ∙ sym (ap finite.len (view-insert xs c.put.new.items.items c.args.id c.args.row h.found) ∙ len-new (view_of xs) c.args.id c.args.row none);
    }

pub returns-clause-ok : goal.returns-clause-ok
returns-clause-ok g c =
    stock_same _ _ _ _ _ _
    (view-insert c.self.inside.items.items c.put.new.items.items c.args.id c.args.row c.in_ok-put.ensures.ok.found ∙ ap (λ (s : Stock g.row.T.Denot). finite.insert s.live c.args.id c.args.row) c.self.view_is)
    (c.in_ok-put.ensures.ok.buried ∙ ap (λ (s : Stock g.row.T.Denot). s.buried) c.self.view_is)
    refl
