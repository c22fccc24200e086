use Rattle.std.proofs.Common.{rules, subst, SFits}
use Rattle.std.specs.Int.{w128}
use Rattle.std.proofs.lemmas.Int.{to_z-of_z}
use Rattle.std.proofs.lemmas.Bool.{false≢true}
use Rattle.motion_test.specs.Heights.{LieOn}
use Rattle.motion_test.proofs.Sides.{none≢some, one_side}
use Rattle.motion_test.proofs.heights.side_along.Goals as goal

pub returns-else-lie_on : goal.returns-else-lie_on
returns-else-lie_on c =
    let h = c.args.h in
    let a_fits : SFits w128 h.a = search rules in
    let b_fits : SFits w128 h.b = search rules in
    let c_fits : SFits w128 h.c = search rules in
    let here = c.in_ok-side.side in
    let on_here = ((simp to_z-of_z at c.side_by.ensures) here).0 c.in_ok-side.was in
    λ side. (
      λ e. absurd (none≢some side e),
      λ on. absurd (false≢true (c.if-lie_on.ensures.1 (subst (λ s. LieOn s h) (one_side side here h.a h.b h.c on.of_c on_here) on))),
    )
