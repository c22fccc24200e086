use Rattle.std.proofs.Common.{rules, FitsSigned, w32}
use Rattle.std.proofs.lemmas.Int.{to_z-of_z}
use Rattle.log_read.specs.Values.{position_at}
use Rattle.log_read.proofs.edit_values.position_at.Goals as goal

pub returns : goal.returns
unfolding position_at
returns c =
    let x : FitsSigned w32 c.in_ok-x.x = search rules in
    let y : FitsSigned w32 c.in_ok-y.y = search rules in
    let z : FitsSigned w32 c.in_ok-z.z = search rules in
    rw (c.in_ok-x.ensures.value, c.in_ok-y.ensures.value, c.in_ok-z.ensures.value, c.point_with.ensures) (simp to_z-of_z)
