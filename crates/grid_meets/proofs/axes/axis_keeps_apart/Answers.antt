use Rattle.std.proofs.Common.{rules, refl, SFits}
use Rattle.std.specs.Int.{w128}
use Rattle.std.proofs.lemmas.Int.{to_z-of_z}
use Rattle.grid_meets.proofs.BeyondLaws.{beyond_x, beyond_y, beyond_z}
use Rattle.grid_meets.proofs.axes.axis_keeps_apart.Goals as goal

pub returns-then-lie_beyond : goal.returns-then-lie_beyond
returns-then-lie_beyond c =
    let a_fits : SFits w128 c.args.a.x = search rules in
    let b_fits : SFits w128 c.args.b.x = search rules in
    let c_fits : SFits w128 c.args.c.x = search rules in
    let d_fits : SFits w128 c.args.d.x = search rules in
    let e_fits : SFits w128 c.args.e.x = search rules in
    λ yes. beyond_x c.args.a c.args.b c.args.c c.args.d c.args.e (simp to_z-of_z at (c.if-lie_beyond.ensures refl))

pub returns-then-lie_beyond-2 : goal.returns-then-lie_beyond-2
returns-then-lie_beyond-2 c =
    let a_fits : SFits w128 c.args.a.y = search rules in
    let b_fits : SFits w128 c.args.b.y = search rules in
    let c_fits : SFits w128 c.args.c.y = search rules in
    let d_fits : SFits w128 c.args.d.y = search rules in
    let e_fits : SFits w128 c.args.e.y = search rules in
    λ yes. beyond_y c.args.a c.args.b c.args.c c.args.d c.args.e (simp to_z-of_z at (c.if-lie_beyond-2.ensures refl))

pub returns : goal.returns
returns c =
    let a_fits : SFits w128 c.args.a.z = search rules in
    let b_fits : SFits w128 c.args.b.z = search rules in
    let c_fits : SFits w128 c.args.c.z = search rules in
    let d_fits : SFits w128 c.args.d.z = search rules in
    let e_fits : SFits w128 c.args.e.z = search rules in
    λ yes. beyond_z c.args.a c.args.b c.args.c c.args.d c.args.e (simp to_z-of_z at (c.lie_beyond-3.ensures yes))
