use Rattle.std.proofs.Common.{◌≡◌, ◌+◌, ◌*◌, ◌+ℤ◌, ◌∷◌, length, drop, ap, sym, ◌∙◌, to_z, of_z, arith}
use Rattle.std.proofs.lemmas.Int.{ints}
use Rattle.std.proofs.lemmas.List.{drop_more, drop_all}
use Rattle.std.specs.Int.{w128}
use Rattle.mesh_base.specs.Placements.{rest_positions}
use Rattle.mesh_measure.specs.declared.TheConstants.{DETERMINANT_MAX}
use Rattle.mesh_measure.specs.Volume.{volume6}
use Rattle.mesh_measure.proofs.VolumeSteps.{all_fit}
use Rattle.track_run.proofs.FaceSums.{all_listed, few_listed, told_more, told_all, within_more}
use Rattle.track_run.proofs.listed_volume.listed_volume.Goals as goal

pub loop-c-init : goal.loop-c-init
loop-c-init g c =
    let m = g.S.Surface.mesh c.args.mesh.now in
    record {
      told = all_listed m c.args.faces.now c.requires.faces;
      within = omega arith;
    }

pub overflow_add-sum : goal.overflow_add-sum
overflow_add-sum g c =
    let s = all_fit (to_z w128 c.loop-c.sum-bits) (length (drop c.loop-c.c-index c.args.faces.now)) (length c.args.faces.now) (few_listed (g.S.Surface.mesh c.args.mesh.now) c.args.faces.now (g.met.S.Surface.sound c.args.mesh.now) c.requires.faces) c.loop-c.invariant.within in
    omega (arith, ints, s, c.corners_volume-sum.ensures.within)

pub loop-c-preserved : goal.loop-c-preserved
loop-c-preserved g c =
    let m = g.S.Surface.mesh c.args.mesh.now in
    let faces = c.args.faces.now in
    let i = c.loop-c.c-index in
    let d = c.c-item.result in
    let left = drop i faces in
    let next = drop (i + 1) faces in
    let step : left ≡ d ∷ next = drop_more faces i d c.loop-c-test.true ∙ ap (λ x. x ∷ next) (sym c.c-item.is) in
    let s = all_fit (to_z w128 c.loop-c.sum-bits) (length left) (length faces) (few_listed m faces (g.met.S.Surface.sound c.args.mesh.now) c.requires.faces) c.loop-c.invariant.within in
    let p = c.corners_volume-sum.result in
    let new : to_z w128 (of_z w128 (to_z w128 c.loop-c.sum-bits +ℤ to_z w128 (of_z w128 p))) ≡ (to_z w128 c.loop-c.sum-bits) +ℤ p = omega (arith, ints, s, c.corners_volume-sum.ensures.within) in
    record {
      told = rw new (told_more (rest_positions m) (to_z w128 c.loop-c.sum-bits) p (volume6 m) left next d step c.corners_volume-sum.ensures.value c.loop-c.invariant.told);
      within = rw new (within_more (to_z w128 c.loop-c.sum-bits) p left next d (length faces * DETERMINANT_MAX) DETERMINANT_MAX step c.loop-c.invariant.within c.corners_volume-sum.ensures.within);
    }

pub returns : goal.returns
returns g c =
    let m = g.S.Surface.mesh c.args.mesh.now in
    let left = drop c.loop-c.c-index c.args.faces.now in
    told_all (rest_positions m) (to_z w128 c.loop-c.sum-bits) (volume6 m) left (drop_all c.loop-c.c-index c.args.faces.now (omega (arith, c.loop-c-test.false))) c.loop-c.invariant.told
