use Rattle.std.proofs.Common.{◌≡◌, ℕ, Bool, true, is_some, not, Option, Some, None, sym, subst, ◌∙◌}
use Rattle.mesh_measure.specs.Round.{AddsLink}
use Rattle.mesh_measure.proofs.round.put_link.Goals as goal

none_of : (o : Option ℕ) (b : Bool) → is_some o ≡ not b → b ≡ true → o ≡ None
none_of None b is e = cc
none_of (Some n) b is e = cc

pub returns : goal.returns
returns c = λ fresh.
    let from = c.from.inside.0 in
    let to = c.to.inside.0 in
    let old = c.args.links.now in
    let new = c.insert.new.self in
    let adds : AddsLink from to old new = record {
      fresh = sym c.in_ok-old.ensures.old ∙ none_of c.in_ok-old.old c.is_none.result c.is_none.ensures fresh;
      now = λ u. c.in_ok-old.ensures.updates.0 u;
    } in
    subst (λ k. AddsLink k c.args.to old new) c.from.view_is (subst (λ k. AddsLink from k old new) c.to.view_is adds)
