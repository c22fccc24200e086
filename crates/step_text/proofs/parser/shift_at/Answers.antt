use Rattle.std.proofs.Common.{rules, FitsSigned, w32}
use Rattle.std.proofs.lemmas.Int.{to_z-of_z}
use Rattle.step_text.specs.Steps.{shift_at}
use Rattle.step_text.proofs.parser.shift_at.Goals as goal

pub returns : goal.returns
unfolding shift_at
returns c =
    let x : FitsSigned w32 c.in_ok-x.x = search rules in
    let y : FitsSigned w32 c.in_ok-y.y = search rules in
    let z : FitsSigned w32 c.in_ok-z.z = search rules in
    rw (c.shift_with.ensures, c.in_ok-x.ensures.value, c.in_ok-y.ensures.value, c.in_ok-z.ensures.value) (simp to_z-of_z)
