use Rattle.std.proofs.Common.{Some, sym, ap, ◌∙◌}
use Rattle.edit_check.proofs.reach.extent_of.Goals as goal

pub returns-in-Some : goal.returns-in-Some
returns-in-Some c = ap Some c.extent.ensures ∙ sym c.in-Some.is
