use Rattle.std.proofs.Common.{◌≡◌, ℕ, None, is_some, true, ap, sym, subst, refl, map, ◌∙◌}
use Rattle.std.specs.Ordering.{nat_cmp}
use Rattle.std.specs.FinMap as finite
use Rattle.id_table.specs.Stones.{RiseFrom, swapped, is_held}
use Rattle.id_table.specs.Stock.{Stock}
use Rattle.id_table.proofs.StoneLaws.{view_of}
use Rattle.id_table.proofs.BuriedItems.{stock_same, held-only, buried-forgotten, rise-filtered}
use Rattle.id_table.proofs.rows.Rows.forget.Goals as goal

pub invariant_of-self : goal.invariant_of-self
invariant_of-self g c =
    let xs = c.self.inside.items.items in
    let i = c.self.invariant in
    record {
      rise = subst (RiseFrom 0) (sym c.keep_held.ensures.items) (rise-filtered is_held 0 xs i.rise);
      count = i.count ∙ ap finite.len (sym (ap view_of c.keep_held.ensures.items ∙ ap (finite.from_entries {R = nat_cmp}) (held-only xs)));
    }

pub returns-clause-kept : goal.returns-clause-kept
returns-clause-kept g c =
    let xs = c.self.inside.items.items in
    let apart : (q : ℕ) → is_some (finite.get (view_of (map swapped xs)) q) ≡ true → finite.get (view_of xs) q ≡ None = λ q some. ap (λ (s : Stock g.row.T.Denot). finite.get s.live q) c.self.view_is ∙ c.requires q (ap (λ (s : Stock g.row.T.Denot). is_some (finite.get s.buried q)) (sym c.self.view_is) ∙ some) in
    stock_same _ _ _ _ _ _
    (ap view_of c.keep_held.ensures.items ∙ ap (finite.from_entries {R = nat_cmp}) (held-only xs) ∙ ap (λ (s : Stock g.row.T.Denot). s.live) c.self.view_is)
    (ap (λ ys. view_of (map swapped ys)) c.keep_held.ensures.items ∙ ap (finite.from_entries {R = nat_cmp}) (buried-forgotten xs c.self.invariant.rise apart))
    refl
