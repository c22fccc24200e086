use Rattle.std.proofs.Common.{rules, SFits}
use Rattle.std.specs.Int.{w128}
use Rattle.motion_test.proofs.HeightLaws.{along_z, same_heights}
use Rattle.motion_test.proofs.heights.along_z.Goals as goal

pub returns : goal.returns
returns c =
    let f = c.args.f.now in
    let a_fits : SFits w128 f.a.z = search rules in
    let b_fits : SFits w128 f.b.z = search rules in
    let c_fits : SFits w128 f.c.z = search rules in
    let d_fits : SFits w128 f.d.z = search rules in
    let e_fits : SFits w128 f.e.z = search rules in
    same_heights _ _ _ _ _ _ _ _ _ _ (along_z f.a a_fits) (along_z f.b b_fits) (along_z f.c c_fits) (along_z f.d d_fits) (along_z f.e e_fits)
