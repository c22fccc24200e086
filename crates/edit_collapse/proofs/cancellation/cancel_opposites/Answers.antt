use Rattle.std.proofs.Common.{◌≡◌, None, sym, ap, ◌∙◌}
use Rattle.edit_collapse.specs.Tried.{two_in}
use Rattle.edit_collapse.proofs.Lists.{still}
use Rattle.edit_collapse.proofs.cancellation.cancel_opposites.Goals as goal

pub returns-in-None : goal.returns-in-None
returns-in-None c =
    let none : two_in c.loop-rest.left ≡ None = ap two_in (sym c.as_slice.ensures) ∙ sym c.in_ok-two.ensures ∙ c.in-None.is in
    sym (still c.loop-rest.rest c.loop-rest.left none) ∙ c.loop-rest.invariant
