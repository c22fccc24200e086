use Rattle.std.proofs.Common.{◌≡◌, Bool, true, false, cond, ◌||◌, ◌==◌, not, refl, sym, ap, ◌∙◌}
use Rattle.std.proofs.lemmas.Bool.{false≢true}
use Rattle.std.specs.Cmp.{unsigned_tied}
use Rattle.std.specs.Ordering.{nat_cmp, eq_by_cmp}
use Rattle.edit_collapse.specs.Alike.{has_met}
use Rattle.edit_collapse.proofs.alike.is_met_anew.Goals as goal

opened : (a : Bool) → not a ≡ true → a ≡ false
opened true h = absurd (false≢true h)
opened false h = refl

put : (a b : Bool) → cond a true b ≡ (a || b)
put true b = refl
put false b = refl

pub returns : goal.returns
returns c = λ yes.
    let old = c.args.met.now in
    let key = c.rank.result in
    let is = c.rank.ensures in
    record {
      three = sym c.if-is_folded.ensures;
      not_before = ap (has_met old) (sym is) ∙ opened (has_met old key) (sym c.in_ok-anew.ensures.added ∙ yes);
      now = λ k. c.in_ok-anew.ensures.updates.0 k ∙ put (eq_by_cmp nat_cmp key k) (has_met old k) ∙ ap (λ t. t || has_met old k) (unsigned_tied key k ∙ ap (λ n. n == k) is);
    }
