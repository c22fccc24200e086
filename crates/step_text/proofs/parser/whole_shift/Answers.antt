use Rattle.std.proofs.Common.{ℕ, List, length, ap, arith, rules, FitsSigned, w32}
use Rattle.std.proofs.lemmas.Int.{to_z-of_z}
use Rattle.grid_base.specs.declared.TheConstants.{SHIFT_MAX, ID_MAX}
use Rattle.step_text.specs.Steps.{shift_at, shift_one_of}
use Rattle.step_text.proofs.Taken.{number_taken, signed_taken}
use Rattle.step_text.proofs.parser.whole_shift.Goals as goal

pub returns-clause-four : goal.returns-clause-four
returns-clause-four c =
    let v = number_taken 1 ID_MAX _ _ c.in-Ok.ensures.value in
    let x = signed_taken SHIFT_MAX _ _ c.in-Ok-signed_at.ensures.value in
    let y = signed_taken SHIFT_MAX _ _ c.in-Ok-signed_at-2.ensures.value in
    let z = signed_taken SHIFT_MAX _ _ c.in-Ok-signed_at-3.ensures.value in
    let none = ap (λ (ws : List (List ℕ)). length ws) (c.in-None.ensures.steps.0) in
    omega (arith, v, x, y, z, none)

pub returns-clause-value : goal.returns-clause-value
unfolding shift_at shift_one_of
returns-clause-value c =
    let x : FitsSigned w32 c.in-Ok-signed_at.x = search rules in
    let y : FitsSigned w32 c.in-Ok-signed_at-2.y = search rules in
    let z : FitsSigned w32 c.in-Ok-signed_at-3.z = search rules in
    rw (c.shift_with-by.ensures, c.in-Ok.ensures.value, c.in-Ok-signed_at.ensures.value, c.in-Ok-signed_at-2.ensures.value, c.in-Ok-signed_at-3.ensures.value) (simp to_z-of_z)
