use Rattle.std.proofs.Common.{refl, inl, inr, SFits}
use Rattle.std.specs.Int.{w128}
use Rattle.std.proofs.lemmas.Int.{to_z-of_z}
use Rattle.grid_meets.proofs.axes.lie_beyond.Goals as goal

pub returns-then-is_least : goal.returns-then-is_least
returns-then-is_least c =
    let a_fits : SFits w128 c.args.a = c.ranges.a in
    let b_fits : SFits w128 c.args.b = c.ranges.b in
    let c_fits : SFits w128 c.args.c = c.ranges.c in
    let d_fits : SFits w128 c.args.d = c.ranges.d in
    let e_fits : SFits w128 c.args.e = c.ranges.e in
    let first = simp to_z-of_z at c.if-is_least.ensures in
    let second = simp to_z-of_z at c.is_least-then-is_least.ensures in
    λ yes. inl (first.0 refl, second.0 yes)

pub returns-then-is_greatest : goal.returns-then-is_greatest
returns-then-is_greatest c =
    let a_fits : SFits w128 c.args.a = c.ranges.a in
    let b_fits : SFits w128 c.args.b = c.ranges.b in
    let c_fits : SFits w128 c.args.c = c.ranges.c in
    let d_fits : SFits w128 c.args.d = c.ranges.d in
    let e_fits : SFits w128 c.args.e = c.ranges.e in
    let first = simp to_z-of_z at c.if-is_greatest.ensures in
    let second = simp to_z-of_z at c.is_greatest-then-is_greatest.ensures in
    λ yes. inr (first.0 refl, second.0 yes)
