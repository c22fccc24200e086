use Rattle.std.proofs.Common.{rules, SFits}
use Rattle.std.specs.Int.{w128}
use Rattle.motion_test.proofs.HeightLaws.{along_x, same_heights}
use Rattle.motion_test.proofs.heights.along_x.Goals as goal

pub returns : goal.returns
returns c =
    let f = c.args.f.now in
    let a_fits : SFits w128 f.a.x = search rules in
    let b_fits : SFits w128 f.b.x = search rules in
    let c_fits : SFits w128 f.c.x = search rules in
    let d_fits : SFits w128 f.d.x = search rules in
    let e_fits : SFits w128 f.e.x = search rules in
    same_heights _ _ _ _ _ _ _ _ _ _ (along_x f.a a_fits) (along_x f.b b_fits) (along_x f.c c_fits) (along_x f.d d_fits) (along_x f.e e_fits)
