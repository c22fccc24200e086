use Rattle.std.proofs.Common.{◌≡◌, ◌≤◌, ◌*◌, ◌-ℤ◌, pos, to_z, of_z, w64, cond, None, sym, ap, ◌∙◌, arith}
use Rattle.std.proofs.lemmas.Int.{ints}
use Rattle.grid_base.specs.declared.TheConstants.{FACES_MAX}
use Rattle.mesh_measure.specs.Shape.{components, euler, half_of}
use Rattle.mesh_measure.proofs.ShapeSteps.{euler_low, euler_high, at_most}
use Rattle.mesh_measure.proofs.Halving.{few_components}
use Rattle.mesh_measure.proofs.genus_number.genus_by.Goals as goal

pub twice_genus-twice-requires-clause-few : goal.twice_genus-twice-requires-clause-few
twice_genus-twice-requires-clause-few g c =
    let m = g.S.Surface.mesh c.args.mesh.now in
    at_most c.args.pieces (components m) FACES_MAX c.requires.pieces (few_components m (g.met.S.Surface.sound c.args.mesh.now))

pub twice_genus-twice-requires-clause-low : goal.twice_genus-twice-requires-clause-low
twice_genus-twice-requires-clause-low g c =
    let m = g.S.Surface.mesh c.args.mesh.now in
    let sound = g.met.S.Surface.sound c.args.mesh.now in
    let is = c.requires.number in
    let low = euler_low m sound in
    let high = euler_high m sound in
    omega (arith, ints, is, low, high)

pub twice_genus-twice-requires-clause-high : goal.twice_genus-twice-requires-clause-high
twice_genus-twice-requires-clause-high g c =
    let m = g.S.Surface.mesh c.args.mesh.now in
    let sound = g.met.S.Surface.sound c.args.mesh.now in
    let is = c.requires.number in
    let low = euler_low m sound in
    let high = euler_high m sound in
    omega (arith, ints, is, low, high)

pub returns : goal.returns
returns g c =
    let m = g.S.Surface.mesh c.args.mesh.now in
    let sound = g.met.S.Surface.sound c.args.mesh.now in
    let n = c.args.number in
    let r = c.twice_genus-twice.result in
    let is : n ≡ euler m = c.requires.number in
    let low = euler_low m sound in
    let high = euler_high m sound in
    let few : c.args.pieces ≤ FACES_MAX = at_most c.args.pieces (components m) FACES_MAX c.requires.pieces (few_components m sound) in
    let same : to_z w64 (of_z w64 n) ≡ n = omega (arith, ints, is, low, high) in
    let value : r ≡ pos (2 * c.args.pieces) -ℤ n = c.twice_genus-twice.ensures.value ∙ ap (λ z. pos (2 * c.args.pieces) -ℤ z) same in
    let bits : to_z w64 (of_z w64 r) ≡ r = omega (arith, ints, is, low, high, few, value) in
    let twice : r ≡ pos (2 * components m) -ℤ euler m = value ∙ ap (λ k. pos (2 * k) -ℤ n) c.requires.pieces ∙ ap (λ z. pos (2 * components m) -ℤ z) is in
    c.half_of.ensures ∙ ap half_of (bits ∙ twice) ∙ ap (λ b. cond b None (half_of (pos (2 * components m) -ℤ euler m))) (sym c.if-branch.false ∙ c.in_ok-is_singular.ensures)
