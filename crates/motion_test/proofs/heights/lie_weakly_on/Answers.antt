use Rattle.std.proofs.Common.{rules, refl, SFits}
use Rattle.std.specs.Int.{w128}
use Rattle.std.proofs.lemmas.Int.{to_z-of_z}
use Rattle.motion_test.proofs.heights.lie_weakly_on.Goals as goal

pub returns : goal.returns
returns c =
    let h = c.args.h in
    let a_fits : SFits w128 h.a = search rules in
    let b_fits : SFits w128 h.b = search rules in
    let c_fits : SFits w128 h.c = search rules in
    let d_fits : SFits w128 h.d = search rules in
    let e_fits : SFits w128 h.e = search rules in
    let first = (simp to_z-of_z at c.if-not-both_weakly_on.ensures).0 refl in
    let second = (simp to_z-of_z at c.if-not-both_weakly_on-2.ensures).0 refl in
    let third = simp to_z-of_z at c.both_weakly_on-3.ensures in
    (λ yes. record { of_c = first; of_d = second; of_e = third.0 yes }, λ on. third.1 on.of_e)
