use Rattle.std.proofs.Common.{rules, refl, SFits}
use Rattle.std.specs.Int.{w128}
use Rattle.std.proofs.lemmas.Int.{to_z-of_z}
use Rattle.neighbour_list.proofs.heights.are_below.Goals as goal

pub returns : goal.returns
returns c =
    let a_fits : SFits w128 c.args.a = search rules in
    let b_fits : SFits w128 c.args.b = search rules in
    let c_fits : SFits w128 c.args.c = search rules in
    let d_fits : SFits w128 c.args.d = search rules in
    let e_fits : SFits w128 c.args.e = search rules in
    let first = (simp to_z-of_z at c.if-not-both_below.ensures) refl in
    let second = (simp to_z-of_z at c.if-not-both_below-2.ensures) refl in
    let third = simp to_z-of_z at c.both_below-3.ensures in
    λ yes. (first.0, first.1, second.0, second.1, (third yes).0, (third yes).1)
