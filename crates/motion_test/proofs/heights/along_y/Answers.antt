use Rattle.std.proofs.Common.{rules, SFits}
use Rattle.std.specs.Int.{w128}
use Rattle.motion_test.proofs.HeightLaws.{along_y, same_heights}
use Rattle.motion_test.proofs.heights.along_y.Goals as goal

pub returns : goal.returns
returns c =
    let f = c.args.f.now in
    let a_fits : SFits w128 f.a.y = search rules in
    let b_fits : SFits w128 f.b.y = search rules in
    let c_fits : SFits w128 f.c.y = search rules in
    let d_fits : SFits w128 f.d.y = search rules in
    let e_fits : SFits w128 f.e.y = search rules in
    same_heights _ _ _ _ _ _ _ _ _ _ (along_y f.a a_fits) (along_y f.b b_fits) (along_y f.c c_fits) (along_y f.d d_fits) (along_y f.e e_fits)
