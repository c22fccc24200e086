use Rattle.std.proofs.Common.{◌≤◌, ◌+◌, refl, length, ap, ◌∙◌, get_or, arith}
use Rattle.std.proofs.lemmas.List.{take_all, get_or_default}
use Rattle.mesh_measure.specs.Components.{edges_above}
use Rattle.mesh_measure.proofs.ComponentSteps.{counted_more, few_taken}
use Rattle.mesh_measure.proofs.measured.edges_above.Goals as goal

pub loop-v-init : goal.loop-v-init
loop-v-init g c = refl

pub overflow_add-count : goal.overflow_add-count
overflow_add-count g c =
    let m = g.S.Surface.mesh c.args.mesh.now in
    let vs = c.args.vertices.now in
    let i = c.loop-v.v-index in
    let x = get_or vs i 0 in
    let next = counted_more m vs i x c.loop-v.count c.in_ok-more.more c.loop-v-test.true (get_or_default vs i 0 x c.loop-v-test.true) c.loop-v.invariant c.in_ok-more.ensures in
    let few = few_taken m (g.met.S.Surface.sound c.args.mesh.now) (i + 1) vs c.requires in
    omega (arith, next, few)

pub loop-v-preserved : goal.loop-v-preserved
loop-v-preserved g c =
    let m = g.S.Surface.mesh c.args.mesh.now in
    let vs = c.args.vertices.now in
    let i = c.loop-v.v-index in
    let x = get_or vs i 0 in
    counted_more m vs i x c.loop-v.count c.in_ok-more.more c.loop-v-test.true (get_or_default vs i 0 x c.loop-v-test.true) c.loop-v.invariant c.in_ok-more.ensures

pub returns : goal.returns
returns g c =
    let m = g.S.Surface.mesh c.args.mesh.now in
    let vs = c.args.vertices.now in
    let end : length vs ≤ c.loop-v.v-index = omega arith in
    c.loop-v.invariant ∙ ap (λ l. length (edges_above m l)) (take_all c.loop-v.v-index vs end)
