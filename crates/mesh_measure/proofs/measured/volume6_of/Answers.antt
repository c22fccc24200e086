use Rattle.std.proofs.Common.{◌≡◌, ◌≤◌, ◌+◌, ◌*◌, ◌+ℤ◌, unsigned_abs, length, get_or, to_z, of_z, sym, ap, subst, ◌∙◌, arith}
use Rattle.std.proofs.lemmas.Int.{ints}
use Rattle.std.proofs.lemmas.List.{take_all, get_or_default}
use Rattle.std.specs.Int.{w128}
use Rattle.mesh_measure.specs.declared.TheConstants.{DETERMINANT_MAX}
use Rattle.mesh_measure.specs.Components.{volume6_of}
use Rattle.mesh_measure.proofs.ComponentSteps.{summed_more, grown_more, sum_fits}
use Rattle.mesh_measure.proofs.measured.volume6_of.Goals as goal

pub overflow_add-sum : goal.overflow_add-sum
overflow_add-sum g c =
    let low : c.loop-f.f-index ≤ length c.args.faces.now = omega arith in
    let s = sum_fits (to_z w128 c.loop-f.sum-bits) c.loop-f.f-index (length c.args.faces.now) low c.requires c.loop-f.invariant.within in
    omega (arith, ints, s, c.face_part-sum.ensures.within)

pub loop-f-preserved : goal.loop-f-preserved
loop-f-preserved g c =
    let m = g.S.Surface.mesh c.args.mesh.now in
    let faces = c.args.faces.now in
    let i = c.loop-f.f-index in
    let x = get_or faces i 0 in
    let s = to_z w128 c.loop-f.sum-bits in
    let p = c.face_part-sum.result in
    let low : i ≤ length faces = omega arith in
    let fits = sum_fits s i (length faces) low c.requires c.loop-f.invariant.within in
    let new : to_z w128 (of_z w128 (s +ℤ to_z w128 (of_z w128 p))) ≡ s +ℤ p = omega (arith, ints, fits, c.face_part-sum.ensures.within) in
    record {
      told = new ∙ summed_more m faces i x s p c.loop-f-test.true (get_or_default faces i 0 x c.loop-f-test.true) c.loop-f.invariant.told c.face_part-sum.ensures.value;
      within = subst (λ n. unsigned_abs n ≤ (i + 1) * DETERMINANT_MAX) (sym new) (grown_more s p i c.loop-f.invariant.within c.face_part-sum.ensures.within);
    }

pub returns-clause-value : goal.returns-clause-value
returns-clause-value g c =
    let m = g.S.Surface.mesh c.args.mesh.now in
    let end : length c.args.faces.now ≤ c.loop-f.f-index = omega arith in
    c.loop-f.invariant.told ∙ ap (volume6_of m) (take_all c.loop-f.f-index c.args.faces.now end)

pub returns-clause-within : goal.returns-clause-within
returns-clause-within g c =
    let top : c.loop-f.f-index ≤ length c.args.faces.now = omega arith in
    sum_fits (to_z w128 c.loop-f.sum-bits) c.loop-f.f-index (length c.args.faces.now) top c.requires c.loop-f.invariant.within
