use Rattle.std.proofs.Common.{nat_le, ap}
use Rattle.std.proofs.lemmas.Bool.{not-false}
use Rattle.pass_run.proofs.vertex_pass.may_be_due.Goals as goal

pub returns : goal.returns
returns g c off = ap (nat_le 2) (c.in_ok-one.ensures (not-false c.in_ok-one.one off))
